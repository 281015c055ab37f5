use Rattle.std.proofs.Common.{arith}
use Rattle.delta_core.proofs.BuilderLemmas.{IsUnfinished-passed_either, IsUnfinished-waiting}
use Rattle.delta_core.proofs.unit_builder.UnitBuilder.pass.Goals as goal

pub invariant_of-self : goal.invariant_of-self
invariant_of-self c =
    rw c.in_err-push_run.ensures.unchanged (IsUnfinished-waiting c.self.inside.base _ c.self.inside.from _ _ (omega arith) c.self.invariant)

pub invariant_of-self-2 : goal.invariant_of-self-2
invariant_of-self-2 c =
    IsUnfinished-passed_either c.push_added.result c.self.inside.base _ c.self.inside.from c.self.inside.kept _ _ _ _ (omega arith) c.self.invariant c.in_ok-push_run.ensures.pushed
    c.push_added.ensures.pushed c.push_added.ensures.unchanged
