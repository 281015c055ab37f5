use Rattle.std.proofs.Common.{refl}
use Rattle.unicode_segmentation.proofs.Computing.{unicode_segmentation}
use Rattle.unicode_width.proofs.Computing.{unicode_width}
use Rattle.line_break.proofs.rows.line_end.Goals as goal

pub returns : goal.returns
unfolding unicode_segmentation unicode_width
returns c = record { both = refl; feed = refl; return = refl; inside = refl; two = refl; blank = refl; alone = refl }
