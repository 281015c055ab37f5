use Rattle.std.proofs.Common.{refl}
use Rattle.unicode_segmentation.proofs.Computing.{unicode_segmentation}
use Rattle.unicode_width.proofs.Computing.{unicode_width}
use Rattle.document_laws.proofs.rows.stale_spans.Goals as goal

pub returns : goal.returns
unfolding unicode_segmentation unicode_width
returns c = record {
  before = refl;
  shown = refl;
  later = refl;
  gone = refl;
  redone = refl;
  cleared = refl;
  run = refl;
  above = refl;
  start = refl;
  len = refl;
  taken = refl;
}
