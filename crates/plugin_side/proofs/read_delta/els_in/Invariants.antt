use Rattle.std.proofs.Common.{◌^◌, vec_len}
use Rattle.plugin_wire.specs.Shapes.{el_shape}
use Rattle.plugin_wire.proofs.ForCallers.{EachLeft}
use Rattle.std.specs.Prelude.{reverse}
use Rattle.plugin_side.proofs.read_delta.els_in.Given as goal

abbrev pub invariant-loop-item : goal.invariant-loop-item
invariant-loop-item l = EachLeft (el_shape (2 ^ 64)) l.fn.items.items (reverse l.items.items) l.els.items

abbrev pub decreases-loop-item : goal.decreases-loop-item
decreases-loop-item l = vec_len l.items
