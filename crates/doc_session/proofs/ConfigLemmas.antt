-- How a document is laid out and edited after an event.
use Rattle.std.proofs.Common.{◌≡◌, refl, ◌∙◌}
use Rattle.plain_text.specs.declared.run.Run.{Run}
use Rattle.doc_session.specs.declared.event.Event.{Event}
use Rattle.doc_session.specs.declared.event.Event.TheVariants.{Ack, Config as Configure, Count, Edit, Ended, Front, Other, Read, Saved, Spans}
use Rattle.doc_text.specs.Asking.{asked_spans}
use Rattle.doc_session.specs.Document.{Document, no_request}
use Rattle.doc_view.specs.declared.looking.Viewing.TheVariants.{Layout, Other as NoCommand}
use Rattle.doc_view.specs.View.{View}
use Rattle.doc_session.specs.Effects.{pristine_from, settled}
use Rattle.doc_session.specs.Step.{config_after, event_step, given_document, request_of, saved_document, styled_document, taken_step, viewed_document}
use Rattle.doc_session.proofs.ActLemmas.{by_front}
use Rattle.doc_session.proofs.SettleLemmas.{part-settled}

-- what its front end is told is no matter
config-settled : (request : Run) (plain next : Document) → (settled request plain next).view.config ≡ next.view.config
config-settled request plain next = part-settled (λ (v : View). v.config) plain.view next.view request (pristine_from plain next) refl

config-taken : (plain : Document) (event : Event) → (taken_step plain event).document.view.config ≡ config_after plain.view.config event
config-taken plain (Front act) =
    by_front (λ step. step.document.view.config ≡ plain.view.config) plain act
    (λ next body scroll history leaves. config-settled (request_of act) plain next ∙ leaves.config)
    (λ next body scroll more leaves. config-settled (request_of act) plain next ∙ leaves.config)
config-taken plain (Edit caller edit named) = config-settled no_request plain (given_document plain caller edit named)
config-taken plain (Spans caller rev start len spans) =
    config-settled no_request plain (styled_document plain caller (asked_spans rev start len spans))
config-taken plain (Read caller rev start max) = refl
config-taken plain (Count caller) = refl
config-taken plain (Ack caller rev) = refl
config-taken plain (Ended caller) = refl
config-taken plain (Configure config) = config-settled no_request plain (viewed_document plain (Layout config))
config-taken plain Saved = config-settled no_request plain (saved_document plain)
config-taken plain Other = config-settled no_request plain (viewed_document plain NoCommand)

-- it is the one that the event says, or else the one before
pub config-event_step : (plain : Document) (event : Event) → (event_step plain event).document.view.config ≡ config_after plain.view.config event
config-event_step plain event = config-taken plain event
