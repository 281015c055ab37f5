use Rattle.std.proofs.Common.{sym, subst}
use Rattle.doc_session.specs.InMemory.{Doc}
use Rattle.doc_session.specs.Stands.{DocStandsFor}
use Rattle.doc_session.specs.Step.{event_step}
use Rattle.doc_session.specs.declared.event.Event.TheVariants.{Saved}
use Rattle.session_step.specs.Views.{TakesEvents}
use Rattle.session_step.proofs.OpenLemmas.{asked_at, serves_found}
use Rattle.session_step.proofs.act.saved.Goals as goal

pub after_alone-requires-clause-takes : goal.after_alone-requires-clause-takes
after_alone-requires-clause-takes c =
    subst TakesEvents (sym c.deref.ensures) (asked_at c.args.held.now c.args.at c.index-held-at.result c.requires.asked c.requires.inside).0

pub returns-in-Ok : goal.returns-in-Ok
returns-in-Ok c = λ views view there found.
    let step = event_step view.document Saved in
    let serves = serves_found c.args.held.now views c.args.at view c.index-held-at.result there.0 found in
    let Of : Doc → Type 0 = λ doc. DocStandsFor doc view.document in
    let stands = subst Of (sym c.deref.ensures) serves.stands in
    c.edited.ensures views view step there found (c.in-Ok.ensures.served view.document stands, c.in-Ok.ensures.effects view.document stands)
