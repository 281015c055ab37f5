use Rattle.std.proofs.Common.{refl}
use Rattle.unicode_segmentation.proofs.Computing.{unicode_segmentation}
use Rattle.unicode_width.proofs.Computing.{unicode_width}
use Rattle.edit_ops.proofs.rows.tabs.Goals as goal

pub returns : goal.returns
unfolding unicode_segmentation unicode_width
returns c = record {
  each = record { text = refl; regions_after = refl };
  past_tab = record { text = refl; regions_after = refl };
  wide = record { text = refl; regions_after = refl };
  tab = record { text = refl; regions_after = refl };
}
