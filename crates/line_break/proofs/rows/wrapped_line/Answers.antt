use Rattle.std.proofs.Common.{refl}
use Rattle.unicode_segmentation.proofs.Computing.{unicode_segmentation}
use Rattle.unicode_width.proofs.Computing.{unicode_width}
use Rattle.line_break.proofs.rows.wrapped_line.Goals as goal

pub returns : goal.returns
unfolding unicode_segmentation unicode_width
returns c = record { words = refl; whole = refl; none = refl }
