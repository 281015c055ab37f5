use Rattle.doc_session.proofs.ScreenLemmas.{IsScreenOf-screen}
use Rattle.doc_session.proofs.laws.screens_show.Goals as goal

pub returns : goal.returns
returns c = IsScreenOf-screen
