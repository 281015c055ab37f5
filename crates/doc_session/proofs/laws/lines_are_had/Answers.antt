use Rattle.doc_session.proofs.ScreenLemmas.{lines_are_had}
use Rattle.doc_session.proofs.laws.lines_are_had.Goals as goal

pub returns : goal.returns
returns c = lines_are_had
