use Rattle.std.proofs.Common.{refl}
use Rattle.unicode_segmentation.proofs.Computing.{unicode_segmentation}
use Rattle.unicode_width.proofs.Computing.{unicode_width}
use Rattle.movement_core.proofs.rows.up_and_down.Goals as goal

pub returns : goal.returns
unfolding unicode_segmentation unicode_width
returns c = record { short = refl; kept = refl; top = refl; end = refl }
