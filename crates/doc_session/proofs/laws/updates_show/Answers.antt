use Rattle.doc_session.proofs.ScreenLemmas.{updates_show}
use Rattle.doc_session.proofs.laws.updates_show.Goals as goal

pub returns : goal.returns
returns c = updates_show
