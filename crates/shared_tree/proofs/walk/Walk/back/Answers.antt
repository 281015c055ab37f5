use Rattle.std.proofs.Common.{◌≡◌, ◌+◌, ◌-◌, arith}
use Rattle.shared_tree.proofs.PlaceLemmas.{at-take}
use Rattle.shared_tree.proofs.walk.Walk.back.Goals as goal

pub returns-clause-given : goal.returns-clause-given
returns-clause-given g c =
    let at : c.self.inside.at - 1 + 1 ≡ c.self.inside.at = omega arith in
    let start : c.self.inside.at - 1 - c.get-index.result.1 ≡ c.self.inside.at - (c.get-index.result.1 + 1) = omega arith in
    rw (← c.self.view_is) (rw (at, start) at (at-take _ _ _ _ c.get-index.ensures))
