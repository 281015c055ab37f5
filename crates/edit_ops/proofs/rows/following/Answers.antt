use Rattle.std.proofs.Common.{refl}
use Rattle.unicode_segmentation.proofs.Computing.{unicode_segmentation}
use Rattle.unicode_width.proofs.Computing.{unicode_width}
use Rattle.edit_ops.proofs.rows.following.Goals as goal

pub returns : goal.returns
unfolding unicode_segmentation unicode_width
returns c = record {
  drag = record { gives = record { text = refl; regions_after = refl } };
  range = record { gives = record { text = refl; regions_after = refl } };
  others = record { gives = record { text = refl; regions_after = refl } };
  more = record { gives = record { text = refl; regions_after = refl } };
  fewer = record { gives = record { text = refl; regions_after = refl } };
  last = record { gives = record { text = refl; regions_after = refl } };
  collapse = record { gives = record { text = refl; regions_after = refl } };
  all = record { gives = record { text = refl; regions_after = refl } };
}
