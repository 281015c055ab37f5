use Rattle.std.proofs.Common.{Option, Some, IfOk, sym, subst}
use Rattle.xi_plain.specs.declared.command.EditAct.{EditAct}
use Rattle.doc_session.specs.Document.{Document}
use Rattle.doc_session.specs.InMemory.{Doc}
use Rattle.doc_session.specs.Stands.{DocStandsFor}
use Rattle.doc_session.specs.Step.{event_step, refusal_at}
use Rattle.doc_session.specs.declared.event.Event.TheVariants.{Front}
use Rattle.doc_text.specs.Refusal.{DocRefusal}
use Rattle.session_step.specs.InnerStep.{IsOutcome}
use Rattle.session_step.specs.Views.{TakesEvents}
use Rattle.session_step.specs.News.{edit_news, edited_news}
use Rattle.session_step.specs.Session.{edit_came, front_outcome, spent_total}
use Rattle.session_step.proofs.FaultLemmas.{IsSpentOrLack-edited}
use Rattle.session_step.proofs.OpenLemmas.{asked_at, serves_found}
use Rattle.session_step.proofs.act.edit_at.Goals as goal

pub after_alone-requires-clause-takes : goal.after_alone-requires-clause-takes
after_alone-requires-clause-takes c =
    subst TakesEvents (sym c.deref.ensures) (asked_at c.args.held.now c.args.at c.index-held-at.result c.requires.asked c.requires.inside).0

pub not_edited-requires-clause-fault : goal.not_edited-requires-clause-fault
not_edited-requires-clause-fault c =
    let Some_of : Doc → Type 0 = λ doc. ∥ ((plain : Document) × DocStandsFor doc plain) ∥₁ in
    IsSpentOrLack-edited c.deref.result.now c.in_ok-copy.field-0 c.in-Err.fault
    (subst Some_of (sym c.deref.ensures) (asked_at c.args.held.now c.args.at c.index-held-at.result c.requires.asked c.requires.inside).1)
    c.in-Err.ensures.refused

pub returns-in-Ok : goal.returns-in-Ok
returns-in-Ok c = λ views view there found.
    let act = c.in_ok-copy.field-0 in
    let step = event_step view.document (Front act) in
    let serves = serves_found c.args.held.now views c.args.at view c.index-held-at.result there.0 found in
    let Of : Doc → Type 0 = λ doc. DocStandsFor doc view.document in
    let stands = subst Of (sym c.deref.ensures) serves.stands in
    let By : Option DocRefusal → Type 0 = λ refusal. IfOk c.edited.result (IsOutcome (edit_came views view (spent_total refusal) step) (edit_news view (spent_total refusal) step)) in
    let At : EditAct → Type 0 = λ act. IfOk c.edited.result (IsOutcome (front_outcome views view act) (edited_news (Some view) act)) in
    subst At c.in_ok-copy.ensures
    (subst By (sym (c.in-Ok.ensures.accepted view.document stands))
    (c.edited.ensures views view step there found (c.in-Ok.ensures.served view.document stands, c.in-Ok.ensures.effects view.document stands)))

pub returns-in-Err : goal.returns-in-Err
returns-in-Err c = λ views view there found.
    let act = c.in_ok-copy.field-0 in
    let serves = serves_found c.args.held.now views c.args.at view c.index-held-at.result there.0 found in
    let Of : Doc → Type 0 = λ doc. DocStandsFor doc view.document in
    let stands = subst Of (sym c.deref.ensures) serves.stands in
    let At : EditAct → Type 0 = λ act. IfOk c.not_edited.result (IsOutcome (front_outcome views view act) (edited_news (Some view) act)) in
    subst At c.in_ok-copy.ensures
    (c.not_edited.ensures views view (refusal_at view.document (Front act)) (event_step view.document (Front act)) there.0
    (c.in-Err.ensures.refused view.document stands))
