use Rattle.std.proofs.Common.{◌≡◌, ◌++◌, drop}
use Rattle.std.specs.List.{flat_map}
use Rattle.span_runs.specs.Spans.{spans_in}
use Rattle.span_styles.proofs.layers.shown.Given as goal

abbrev pub invariant-loop-layer : goal.invariant-loop-layer
invariant-loop-layer l = l.spans ++ flat_map (spans_in l.range) (drop l.layer-index l.layers) ≡ flat_map (spans_in l.range) l.layers
