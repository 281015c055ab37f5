use Rattle.std.proofs.Common.{◌≡◌, ◌++◌, drop}
use Rattle.span_styles.proofs.layers.copied.Given as goal

abbrev pub invariant-loop-layer : goal.invariant-loop-layer
invariant-loop-layer l = l.made.items ++ drop l.layer-index l.layers ≡ l.layers
