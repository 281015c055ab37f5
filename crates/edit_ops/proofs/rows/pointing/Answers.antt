use Rattle.std.proofs.Common.{refl}
use Rattle.unicode_segmentation.proofs.Computing.{unicode_segmentation}
use Rattle.unicode_width.proofs.Computing.{unicode_width}
use Rattle.edit_ops.proofs.rows.pointing.Goals as goal

pub returns : goal.returns
unfolding unicode_segmentation unicode_width
returns c = record {
  end = record { gives = record { text = refl; regions_after = refl } };
  word = record { gives = record { text = refl; regions_after = refl } };
  inside = record { gives = record { text = refl; regions_after = refl } };
  bytes = record { gives = record { text = refl; regions_after = refl } };
  past = record { gives = record { text = refl; regions_after = refl } };
  line = record { gives = record { text = refl; regions_after = refl } };
  feeds = record { gives = record { text = refl; regions_after = refl } };
  first = record { gives = record { text = refl; regions_after = refl } };
  second = record { gives = record { text = refl; regions_after = refl } };
  none = record { gives = record { text = refl; regions_after = refl } };
}
