use Rattle.std.proofs.Common.{◌≡◌, ◌++◌, drop, length}
use Rattle.selection_core.specs.Mapped.{AreWithin}
use Rattle.edit_ops.specs.Commands.{copied_text}
use Rattle.edit_ops.specs.Inner.{copied_on}
use Rattle.edit_ops.proofs.copying.copied.Given as goal

abbrev pub invariant-loop-region : goal.invariant-loop-region
invariant-loop-region g l = record {
  so_far : l.copied ++ copied_on (g.T.TextView.text_of l.view) l.is_first (drop l.region-index l.region-items) ≡
      copied_text (g.T.TextView.text_of l.view) l.region-items;
  within : AreWithin (length (g.T.TextView.text_of l.view)) (drop l.region-index l.region-items);
}
