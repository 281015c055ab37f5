use Rattle.document_laws.proofs.RedoLemmas.{newest_left, undone_newest}
use Rattle.document_laws.proofs.laws.undo_takes_newest.Goals as goal

pub returns : goal.returns
returns c = λ doc plain group stands found.
    (newest_left plain group stands.text.parts.agree.undone stands.text.parts.agree.stack found, undone_newest plain group stands.text.parts.agree.undone found)
