use Rattle.std.proofs.Common.{refl}
use Rattle.doc_view.proofs.view.ViewState.shown_text.Goals as goal

pub returns-clause-may : goal.returns-clause-may
returns-clause-may c = record { selection = c.selection.ensures.sound; searched = refl }
