use Rattle.std.proofs.Common.{arith}
use Rattle.delta_core.proofs.BuilderLemmas.{IsUnfinished-kept_either}
use Rattle.delta_core.proofs.unit_builder.UnitBuilder.keep.Goals as goal

pub invariant_of-self : goal.invariant_of-self
invariant_of-self c =
    IsUnfinished-kept_either c.push_added.result c.self.inside.base _ c.self.inside.from _ _ _ _ (omega arith) c.self.invariant c.push_added.ensures.pushed c.push_added.ensures.unchanged
