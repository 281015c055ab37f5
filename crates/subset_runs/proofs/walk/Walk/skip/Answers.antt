use Rattle.std.proofs.Common.{◌≡◌, ℕ, ◌-◌, length, ap, sym, ◌∙◌, arith}
use Rattle.subset_runs.proofs.RunLemmas.{length-flags_in, IsAhead-skip, skipped}
use Rattle.subset_runs.proofs.walk.Walk.skip.Goals as goal

pub overflow_add-self : goal.overflow_add-self
overflow_add-self c =
    omega (arith, ap length c.self.view_is, length-flags_in c.self.inside.runs.now c.self.inside.at (c.self.inside.len - c.self.inside.at))

pub invariant_of-self : goal.invariant_of-self
invariant_of-self c =
    IsAhead-skip _ _ _ _ _ _ c.self.invariant c.self.view_is c.requires c.rest_after-self-inside.ensures.rest c.rest_after-self-inside.ensures.ahead

pub returns : goal.returns
returns c = skipped _ _ _ _ _ _ c.self.invariant c.self.view_is c.requires c.rest_after-self-inside.ensures.rest
