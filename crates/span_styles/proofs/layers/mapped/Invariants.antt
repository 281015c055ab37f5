use Rattle.std.proofs.Common.{◌≡◌, ◌++◌, drop}
use Rattle.span_styles.specs.Layers.{AreOver, mapped_layers}
use Rattle.span_styles.proofs.layers.mapped.Given as goal

abbrev pub invariant-loop-layer : goal.invariant-loop-layer
invariant-loop-layer l = record {
  so_far : l.made.items ++ mapped_layers l.units (drop l.layer-index l.layers) ≡ mapped_layers l.units l.layers;
  over : AreOver l.units.base (drop l.layer-index l.layers);
}
