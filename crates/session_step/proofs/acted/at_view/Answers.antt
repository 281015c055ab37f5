use Rattle.std.proofs.Common.{length, Option, IfOk, sym, subst}
use Rattle.std.specs.Prelude.{option_map}
use Rattle.doc_text.specs.Refusal.{DocRefusal}
use Rattle.doc_session.specs.InMemory.{Doc}
use Rattle.doc_session.specs.Stands.{DocStandsFor}
use Rattle.doc_session.specs.Step.{IsEventFor, event_step, refusal_at}
use Rattle.session_step.specs.PluginStep.{refused_verdict, step_outcome}
use Rattle.session_step.specs.Views.{TakesEvents}
use Rattle.session_step.proofs.OpenLemmas.{asked_at, serves_found}
use Rattle.session_step.specs.PluginEffects.{IsActed}
use Rattle.session_step.proofs.PluginActLemmas.{may_come_at}
use Rattle.session_step.proofs.acted.at_view.Goals as goal

pub after_alone-requires-clause-takes : goal.after_alone-requires-clause-takes
after_alone-requires-clause-takes c =
    subst TakesEvents (sym c.deref.ensures)
    (asked_at c.args.held.now c.args.at c.index-held-at.result c.requires.asked c.requires.inside).0

pub after_alone-requires-clause-event : goal.after_alone-requires-clause-event
after_alone-requires-clause-event c =
    let At : Doc → Type 0 = λ doc. IsEventFor (length doc.text.sessions) c.args.event in
    subst At (sym c.deref.ensures)
    (may_come_at c.args.event c.args.held.now c.args.at c.index-held-at.result c.requires.event c.requires.inside)

pub returns-in-Ok-clause-acted : goal.returns-in-Ok-clause-acted
returns-in-Ok-clause-acted c = λ views view there found.
    let step = event_step view.document c.args.event in
    let Of : Doc → Type 0 = λ doc. DocStandsFor doc view.document in
    let stands = subst Of (sym c.deref.ensures) (serves_found c.args.held.now views c.args.at view c.index-held-at.result there.0 found).stands in
    let By : Option DocRefusal → Type 0 =
    λ refusal. IfOk c.stepped.result (IsActed c.args.held.now (option_map refused_verdict refusal) (step_outcome c.args.fresh.styles views view step)) in
    subst By (sym (c.in-Ok.ensures.accepted view.document stands))
    (c.stepped.ensures.acted views view step there found (c.in-Ok.ensures.served view.document stands, c.in-Ok.ensures.effects view.document stands))

pub returns-in_ok-refused_by-in-Err-clause-acted : goal.returns-in_ok-refused_by-in-Err-clause-acted
returns-in_ok-refused_by-in-Err-clause-acted c = λ views view there found.
    let Of : Doc → Type 0 = λ doc. DocStandsFor doc view.document in
    let stands = subst Of (sym c.deref.ensures) (serves_found c.args.held.now views c.args.at view c.index-held-at.result there.0 found).stands in
    c.in_ok-refused_by-in-Err.ensures (refusal_at view.document c.args.event) (c.in-Err.ensures.refused view.document stands)
