use Rattle.std.proofs.Common.{◌+◌, ◌∙◌}
use Rattle.doc_text.proofs.ForCallers.{sound-given, fresh}
use Rattle.document_laws.proofs.TypingLemmas.{run_taken_back}
use Rattle.document_laws.proofs.laws.undo_takes_run_back.Goals as goal

pub returns : goal.returns
returns c = λ doc plain texts stands ended some.
    let agree = stands.text.parts.agree in
    let groups = plain.text.groups in
    run_taken_back texts plain (
      sound-given doc.text.engine plain.text.history stands.text.parts.state.stands,
      agree.undone,
      agree.given (groups.given + 1) ∙ fresh plain.text.history.revisions plain.text.history.collected groups plain.text.typing agree,
      ended,
    ) (stands.regions_are.some, stands.regions_are.inside) some
