use Rattle.std.proofs.Common.{◌++◌, ap, ◌∙◌, subst}
use Rattle.doc_session.specs.Document.{Document}
use Rattle.doc_session.specs.InMemory.{Doc}
use Rattle.doc_session.specs.Stands.{DocStandsFor}
use Rattle.doc_session.specs.Step.{AreEffectsOf, event_step}
use Rattle.doc_session.specs.declared.event.Event.{Event}
use Rattle.session_step.specs.InnerStep.{each_event}
use Rattle.session_step.specs.Session.{updates_for}
use Rattle.session_step.proofs.OpenLemmas.{OnOk-both, TakesSteps-one}
use Rattle.session_step.proofs.stepped.Stepped.push_after.Goals as goal

pub returns-in-Ok : goal.returns-in-Ok
returns-in-Ok c =
    let kept = c.args.kept.now in
    let Serves : Doc → Event → Type 0 =
    λ doc event. (plain : Document) → DocStandsFor doc plain → DocStandsFor c.in-Ok.next (event_step plain event).document in
    let Tells : Doc → Event → Type 0 =
    λ doc event. (plain : Document) → DocStandsFor doc plain → AreEffectsOf (event_step plain event) c.in-Ok.effects in
    let served = subst (Serves c.deref.result.now) c.event_of.ensures c.in-Ok.ensures.served in
    let told = subst (Tells c.deref.result.now) c.event_of.ensures c.in-Ok.ensures.effects in
    let event = each_event c.args.told in
    OnOk-both c.push.result
    (λ held updates.
    TakesSteps-one c.args.told c.args.self.now c.push.new.self kept c.in-Ok.next c.in-Ok.effects (subst (λ doc. Serves doc event) c.deref.ensures served)
    (subst (λ doc. Tells doc event) c.deref.ensures told) held
    (updates ∙ ap (λ update. c.args.self.now.updates ++ updates_for kept.id update) c.update_of.ensures)) c.push.ensures.held c.push.ensures.updates
