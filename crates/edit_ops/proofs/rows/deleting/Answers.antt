use Rattle.std.proofs.Common.{refl}
use Rattle.unicode_segmentation.proofs.Computing.{unicode_segmentation}
use Rattle.unicode_width.proofs.Computing.{unicode_width}
use Rattle.edit_ops.proofs.rows.deleting.Goals as goal

pub returns : goal.returns
unfolding unicode_segmentation unicode_width
returns c = record {
  word = record { text = refl; regions_after = refl };
  within = record { text = refl; regions_after = refl };
  next_word = record { text = refl; regions_after = refl };
  letter = record { text = refl; regions_after = refl };
  marked = record { text = refl; regions_after = refl };
  feed = record { text = refl; regions_after = refl };
  start = record { text = refl; regions_after = refl };
  end = record { text = refl; regions_after = refl };
}
