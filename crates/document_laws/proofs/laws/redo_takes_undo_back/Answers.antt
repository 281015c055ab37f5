use Rattle.doc_text.proofs.ForCallers.{sound-given}
use Rattle.document_laws.proofs.RedoLemmas.{redo_after_undo}
use Rattle.document_laws.proofs.laws.redo_takes_undo_back.Goals as goal

pub returns : goal.returns
returns c = λ doc plain stands some.
    redo_after_undo plain stands.text.parts.acknowledged stands.text.none_left c.redo_takes_undo_back.ensures
    (sound-given doc.text.engine plain.text.history stands.text.parts.state.stands) stands.text.parts.agree.undone stands.text.parts.agree.stack some
