use Rattle.session_laws.proofs.LawLemmas.{unread_shows_nothing}
use Rattle.session_laws.proofs.laws.unread_shows_nothing.Goals as goal

pub returns : goal.returns
returns c = unread_shows_nothing
