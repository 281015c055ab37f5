use Rattle.std.proofs.Common.{refl}
use Rattle.unicode_segmentation.proofs.Computing.{unicode_segmentation}
use Rattle.movement_core.proofs.rows.steps.Goals as goal

pub returns : goal.returns
unfolding unicode_segmentation
returns c = record { cluster = refl; out = refl; feed = refl; end = refl; back = refl; start = refl }
