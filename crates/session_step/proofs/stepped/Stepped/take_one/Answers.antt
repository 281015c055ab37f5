use Rattle.std.proofs.Common.{◌≡◌, subst}
use Rattle.doc_session.specs.Document.{Document}
use Rattle.doc_session.specs.InMemory.{Doc}
use Rattle.doc_session.specs.Stands.{DocStandsFor}
use Rattle.doc_session.specs.Step.{event_step, silent_step}
use Rattle.session_step.specs.InnerStep.{each_event}
use Rattle.session_step.proofs.OpenLemmas.{OnOk-both, TakesSteps-resting}
use Rattle.session_step.proofs.stepped.Stepped.take_one.Goals as goal

pub returns-then-stays_at : goal.returns-then-stays_at
returns-then-stays_at c =
    let Rests : Doc → Type 0 =
    λ doc. (plain : Document) → DocStandsFor doc plain → event_step plain (each_event c.args.told) ≡ silent_step plain in
    let rests = subst Rests c.deref.ensures (c.stays_at.ensures c.if-stays_at.true) in
    OnOk-both c.share.result (λ held updates. TakesSteps-resting c.args.told c.args.self.now c.share.new.self c.args.kept.now rests held updates)
    c.share.ensures.held c.share.ensures.updates
