use Rattle.std.proofs.Common.{length, drop, fold}
use Rattle.span_styles.specs.Layers.{spanned_layer}
use Rattle.span_styles.proofs.SpannedLemmas.{IsSpanning}
use Rattle.span_styles.proofs.spanned.spanned.Given as goal

abbrev pub invariant-loop-spanned : goal.invariant-loop-spanned
invariant-loop-spanned l =
    IsSpanning l.made l.rest l.at (length l.layer) (drop l.spanned-index l.ranges) (fold spanned_layer l.layer l.ranges)
