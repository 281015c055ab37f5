use Rattle.std.proofs.Common.{drop}
use Rattle.plugin_wire.specs.Shapes.{span_shape}
use Rattle.plugin_wire.proofs.Each.{EachLeft}
use Rattle.plugin_wire.proofs.read_spans.spans_in.Given as goal

abbrev pub invariant-loop-item : goal.invariant-loop-item
invariant-loop-item l = EachLeft (span_shape l.len) l.items (drop l.item-index l.items) l.spans.items
