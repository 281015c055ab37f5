use Rattle.std.proofs.Common.{length}
use Rattle.span_styles.proofs.ApartLemmas.{AreAhead}
use Rattle.span_styles.proofs.apart.runs_apart.Given as goal

abbrev pub invariant-loop-counterpart : goal.invariant-loop-counterpart
invariant-loop-counterpart l = AreAhead l.layer l.other l.walk l.counterpart l.at

abbrev pub decreases-loop-counterpart : goal.decreases-loop-counterpart
decreases-loop-counterpart l = length l.walk
