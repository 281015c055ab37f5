use Rattle.std.proofs.Common.{◌≡◌, ap, sym, ◌∙◌, subst}
use Rattle.std.proofs.lemmas.Result.{IfOk-at_ok, IfOk-weaker}
use Rattle.std.specs.Str.{encode_utf8_all}
use Rattle.doc_session.specs.InMemory.{Doc}
use Rattle.doc_session.specs.Stands.{DocStandsFor}
use Rattle.doc_text.specs.Writing.{head_text}
use Rattle.xi_plain.specs.declared.command.Act.{Act}
use Rattle.xi_plain.specs.declared.entry.ShelfNote.TheVariants.{Done, Failed}
use Rattle.core_session.specs.declared.ask.Asked.{Asked}
use Rattle.core_session.specs.InnerSession.{IsChosenBy}
use Rattle.core_session.specs.Shelves.{IsNoted, shelf_state}
use Rattle.session_step.proofs.ForCallers.{serves_found}
use Rattle.core_session.proofs.ShelfLemmas.{noted_saving}
use Rattle.core_session.proofs.ask.saving_at.Goals as goal

pub returns-clause-noted : goal.returns-clause-noted
returns-clause-noted g c = λ session view name there found named act.
    let before = shelf_state g.H.Shelf.files g.H.Shelf.faults c.args.shelf.now in
    let after = shelf_state g.H.Shelf.files g.H.Shelf.faults c.write.new.self in
    let At : Doc → Type 0 = λ doc. DocStandsFor doc view.document in
    let stands = subst At (sym c.deref.ensures) (serves_found c.args.held.now session.views c.args.at view c.index-held-at.result there.0 found).stands in
    let is : c.as_bytes.result.now ≡ encode_utf8_all (head_text view.document.text) =
    c.as_bytes.ensures.value ∙ c.as_str.ensures.utf8 ∙ ap encode_utf8_all (c.in_ok-text.ensures view.document stands) in
    let done = c.in_ok-done-2.done in
    let failed = c.in_ok-done-2.failed in
    let one : done.note ≡ Done = ap (λ (asked : Asked). asked.note) c.in_ok-done-2.ensures.made.0 ∙ c.in_ok-done.ensures.note in
    let other : failed.note ≡ Failed = IfOk-at_ok (λ (asked : Asked). asked.note ≡ Failed) c.in_ok-done-2.ensures.made.1 c.noted-failed.ensures.note in
    IfOk-weaker c.by_answer.result (IsChosenBy c.write.result done failed)
    (λ (asked : Asked). IsNoted before after session.views c.args.command.now.act asked.note)
    (λ kept chosen.
    let Noted : Act → Type 0 = λ asks. IsNoted before after session.views asks kept.note in
    subst Noted (sym act)
    (noted_saving before after session.views name c.args.path.now c.as_bytes.result.now view named is c.write.ensures.faults_stay c.write.result done
    failed kept chosen one other c.write.ensures.files c.write.ensures.failed)) c.by_answer.ensures.chosen
