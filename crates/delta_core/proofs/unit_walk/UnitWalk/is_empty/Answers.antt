use Rattle.std.proofs.Common.{arith}
use Rattle.std.proofs.lemmas.Bool.Decides.{nat_tests}
use Rattle.delta_core.proofs.WalkLemmas.{empty_iff, not_empty_yet}
use Rattle.delta_core.proofs.unit_walk.UnitWalk.is_empty.Goals as goal

pub returns-then-self : goal.returns-then-self
returns-then-self c = empty_iff _ _ _ _ _ _ c.self.invariant.adds c.self.view_is c.is_empty.ensures c.if-self.true

pub returns-else-self : goal.returns-else-self
returns-else-self c = (
  λ is. absurd (grind (arith, nat_tests)),
  λ none. absurd (not_empty_yet _ _ _ _ _ c.self.invariant.reached c.self.invariant.adds c.self.view_is c.if-self.false none),
)
