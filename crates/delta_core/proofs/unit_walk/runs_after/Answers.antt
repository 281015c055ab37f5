use Rattle.std.proofs.Common.{arith}
use Rattle.std.proofs.lemmas.Bool.Decides.{nat_tests}
use Rattle.std.proofs.lemmas.List.{take_rest}
use Rattle.delta_core.proofs.WalkLemmas.{IsRestOfKept-next}
use Rattle.delta_core.proofs.unit_walk.runs_after.Goals as goal

pub loop-rest-preserved : goal.loop-rest-preserved
loop-rest-preserved c = rw (take_rest c.loop-rest.rest.now 1) (IsRestOfKept-next _ _ _ _ c.loop-rest.invariant (grind (arith, nat_tests)) c.if-rest-at.true)
