use Rattle.std.proofs.Common.{refl}
use Rattle.unicode_segmentation.proofs.Computing.{unicode_segmentation}
use Rattle.unicode_width.proofs.Computing.{unicode_width}
use Rattle.cluster_core.proofs.rows.columns_between.Goals as goal

pub returns : goal.returns
unfolding unicode_segmentation unicode_width
returns c = record { tab = refl; whole = refl; left = refl; right = refl }
