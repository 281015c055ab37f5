use Rattle.document_laws.proofs.MarkLemmas.{layouts-tell-marks}
use Rattle.document_laws.proofs.laws.layouts_tell_marks.Goals as goal

pub returns : goal.returns
returns c = layouts-tell-marks
