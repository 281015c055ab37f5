use Rattle.std.proofs.Common.{refl}
use Rattle.unicode_segmentation.proofs.Computing.{unicode_segmentation}
use Rattle.cluster_core.proofs.rows.text_boundaries.Goals as goal

pub returns : goal.returns
unfolding unicode_segmentation
returns c = record { feed = refl; accent = refl }
