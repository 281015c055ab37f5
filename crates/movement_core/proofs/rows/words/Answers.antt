use Rattle.std.proofs.Common.{refl}
use Rattle.unicode_segmentation.proofs.Computing.{unicode_segmentation}
use Rattle.movement_core.proofs.rows.words.Goals as goal

pub returns : goal.returns
unfolding unicode_segmentation
returns c = record { class = refl; across = refl; back = refl; within = refl; outward_right = refl; outward_left = refl }
