-- After an event the front end's screen shows the layout.
use Rattle.std.proofs.Common.{◌≡◌, refl, ap, sym, ◌∙◌}
use Rattle.plain_text.specs.declared.run.Run.{Run}
use Rattle.doc_session.specs.InMemory.{Doc}
use Rattle.doc_session.specs.declared.event.Event.{Event}
use Rattle.doc_session.specs.declared.event.Event.TheVariants.{Ack, Config as Configure, Count, Edit, Ended, Front, Other, Read, Saved, Spans}
use Rattle.doc_layout.specs.Told.{screen_of}
use Rattle.doc_view.specs.declared.looking.Viewing.TheVariants.{Layout, Other as NoCommand}
use Rattle.doc_session.specs.Document.{Document, layout_of, no_request}
use Rattle.doc_text.specs.Asking.{asked_spans}
use Rattle.doc_session.specs.Effects.{settled}
use Rattle.doc_session.specs.ScreenOf.{IsShownAfter, IsUpToDate}
use Rattle.doc_session.specs.Stands.{DocStandsFor}
use Rattle.doc_session.specs.Step.{given_document, request_of, saved_document, styled_document, viewed_document}
use Rattle.doc_session.proofs.ActLemmas.{by_front}
use Rattle.doc_session.proofs.ScreenLemmas.{IsUpToDate-settled}

module _ (doc : Doc) (plain : Document) (stands : DocStandsFor doc plain) where
  -- whatever the document is then, where the screen is as before, and what the front end was told
  shown-next : (request : Run) (next : Document) → next.view.shown ≡ plain.view.shown → next.screen ≡ plain.screen →
      IsUpToDate request (settled request plain next)
  shown-next request next shown stays =
      IsUpToDate-settled plain next request (stands.screen ∙ ap (λ last. screen_of last (layout_of plain)) (sym shown)) stays

  -- a collection changes nothing of it
  pub shown-step : (event : Event) → IsShownAfter plain event
  shown-step (Front act) = λ before.
      by_front (λ step. IsUpToDate (request_of act) step.document) plain act
      (λ next body scroll history leaves. shown-next (request_of act) next leaves.shown leaves.screen)
      (λ next body scroll more leaves. shown-next (request_of act) next leaves.shown leaves.screen)
  shown-step (Edit caller edit named) = λ before. shown-next no_request (given_document plain caller edit named) refl refl
  shown-step (Spans caller rev start len spans) = λ before. shown-next no_request (styled_document plain caller (asked_spans rev start len spans)) refl refl
  shown-step (Read caller rev start max) = λ before. before refl
  shown-step (Count caller) = λ before. before refl
  shown-step (Ack caller rev) = λ before. before refl
  shown-step (Ended caller) = λ before. before refl
  shown-step (Configure config) = λ before. shown-next no_request (viewed_document plain (Layout config)) refl refl
  shown-step Saved = λ before. shown-next no_request (saved_document plain) refl refl
  shown-step Other = λ before. shown-next no_request (viewed_document plain NoCommand) refl refl
