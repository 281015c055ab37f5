use Rattle.std.proofs.Common.{length}
use Rattle.span_styles.proofs.apart.+layers_apart.Given as goal

abbrev pub decreases-layers_apart : goal.decreases-layers_apart
decreases-layers_apart l = length l.layers.now
