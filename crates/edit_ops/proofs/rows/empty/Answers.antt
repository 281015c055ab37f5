use Rattle.std.proofs.Common.{refl}
use Rattle.unicode_segmentation.proofs.Computing.{unicode_segmentation}
use Rattle.unicode_width.proofs.Computing.{unicode_width}
use Rattle.edit_ops.proofs.rows.empty.Goals as goal

pub returns : goal.returns
unfolding unicode_segmentation unicode_width
returns c = record {
  insert = record { text = refl; regions_after = refl };
  paste = record { text = refl; regions_after = refl };
  newline = record { text = refl; regions_after = refl };
  tab = record { text = refl; regions_after = refl };
  backward = record { text = refl; regions_after = refl };
  forward = record { text = refl; regions_after = refl };
  word_backward = record { text = refl; regions_after = refl };
  word_forward = record { text = refl; regions_after = refl };
  cut = record { text = refl; regions_after = refl };
  copy = record { text = refl; regions_after = refl };
  all = record { text = refl; regions_after = refl };
  collapse = record { text = refl; regions_after = refl };
  move = record { text = refl; regions_after = refl };
  click = record { text = refl; regions_after = refl };
  word = record { text = refl; regions_after = refl };
  line = record { text = refl; regions_after = refl };
  drag = record { text = refl; regions_after = refl };
  toggle = record { text = refl; regions_after = refl };
  range = record { text = refl; regions_after = refl };
  goto = record { text = refl; regions_after = refl };
  nothing = record { text = refl; regions_after = refl };
}
