use Rattle.std.proofs.Common.{length}
use Rattle.span_styles.proofs.spanned.+styled.Given as goal

abbrev pub decreases-styled : goal.decreases-styled
decreases-styled l = length l.spans.now
