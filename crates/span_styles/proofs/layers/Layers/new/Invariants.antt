use Rattle.std.proofs.Common.{◌≡◌, replicate}
use Rattle.span_styles.specs.Layers.{unstyled}
use Rattle.span_styles.proofs.layers.Layers.new.Given as goal

abbrev pub invariant-loop-layer : goal.invariant-loop-layer
invariant-loop-layer l = l.layers.items ≡ replicate l._layer (unstyled l.len)
