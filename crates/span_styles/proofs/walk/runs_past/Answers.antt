use Rattle.std.proofs.Common.{None, arith}
use Rattle.std.proofs.lemmas.Bool.Decides.{nat_tests}
use Rattle.std.proofs.lemmas.List.{take_rest}
use Rattle.span_styles.proofs.WalkLemmas.{IsPassing-next, IsRestAt-passed}
use Rattle.span_styles.proofs.walk.runs_past.Goals as goal

pub loop-rest-preserved : goal.loop-rest-preserved
loop-rest-preserved c = rw (take_rest c.loop-rest.rest.now 1) (IsPassing-next _ _ _ _ c.loop-rest.invariant (grind (arith, nat_tests)) c.if-rest-at.true)

pub returns-else-rest-at : goal.returns-else-rest-at
returns-else-rest-at c = IsRestAt-passed _ _ _ (record { end = 0; style = None }) c.loop-rest.invariant (λ some. c.if-rest-at.false)
