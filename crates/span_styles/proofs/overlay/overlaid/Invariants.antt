use Rattle.std.proofs.Common.{length}
use Rattle.span_styles.specs.Inner.{overlaid_layer}
use Rattle.span_styles.proofs.OverlayLemmas.{IsOverlaying}
use Rattle.span_styles.proofs.overlay.overlaid.Given as goal

abbrev pub invariant-loop-upper : goal.invariant-loop-upper
invariant-loop-upper l = IsOverlaying l.made l.upper l.lower (overlaid_layer l.above l.below)

abbrev pub decreases-loop-upper : goal.decreases-loop-upper
decreases-loop-upper l = length l.upper
