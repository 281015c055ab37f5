-- What an act of a plugin comes to, view by view: steps that keep the screens.
use Rattle.std.proofs.Common.{◌≡◌, ℕ, ◌+◌, ◌≤◌, arith, length-append, Bool, true, false, List, [], ◌∷◌, Some, None, refl, ap, sym, ◌∙◌, subst, ◌++◌}
use Rattle.std.specs.Prelude.{if◌then◌else◌, length}
use Rattle.std.specs.List.{AllByRecursion}
use Rattle.std.specs.Str.{bytes_eq}
use Rattle.xi_plain.specs.declared.command.Act.{Act}
use Rattle.plain_edits.specs.declared.style.Style.{Style}
use Rattle.plain_edits.specs.History.{Revision, head}
use Rattle.plain_text.specs.declared.run.Run.{Run}
use Rattle.doc_session.specs.declared.event.Event.{Event}
use Rattle.doc_session.specs.declared.event.Event.TheVariants.{Ack, Config as Configured, Count, Edit as Edited, Ended, Front, Other, Read, Saved, Spans}
use Rattle.doc_session.specs.declared.event.Body.{Body}
use Rattle.doc_session.specs.Document.{Document, no_request}
use Rattle.doc_session.specs.ScreenOf.{IsUpToDate}
use Rattle.doc_session.specs.Stands.{IsLastTold}
use Rattle.doc_text.specs.Asking.{asked_spans}
use Rattle.doc_text.specs.Collecting.{acknowledged_text, ended_text}
use Rattle.doc_text.specs.Writing.{Writing}
use Rattle.doc_session.specs.Effects.{settled, update_after}
use Rattle.doc_session.specs.Step.{EventStep, answered_step, event_step, collected_document, given_document, silent_step, styled_document, with_text}
use Rattle.view_update.specs.declared.note.ViewUpdate.{ViewUpdate}
use Rattle.session_step.specs.PluginStep.{ended_step, plugin_outcome, with_document}
use Rattle.session_step.specs.Views.{HasApart}
use Rattle.session_step.specs.Session.{OpenView, view_of, step, stepped, told as told_updates, updates_for}
use Rattle.core_session.proofs.ScreenLemmas.{IsUpToDate-over}
use Rattle.session_step.proofs.ForCallers.{id_is, view_of-found, OnlyOwn, only_own, alone_step, by_plugin, is_by_plugin, no_step, steps_alone, steps_none}
use Rattle.core_session.proofs.StepLemmas.{MakesScreen, UpdateWithin, KeepsScreen, KeepsStep, keeps_by, screen_collected, keeps_collected, keeps_still, KeepScreens}

-- ---- what an act of a plugin is, view by view

-- a step that nobody of the front end asked for keeps the screen, and where the document showed what was requested last, it shows its window
pub record KeepsShown (document : Document) (step : EventStep) : Type 0 where
  pub most : KeepsScreen no_request document step.document step.update
  pub shown : (last : Run) → IsUpToDate last document → IsLastTold document → IsUpToDate no_request step.document

-- the view takes no step
shown_none : (document : Document) → KeepsShown document (silent_step document)
unfolding MakesScreen UpdateWithin
shown_none document = record {
  most = record { few = omega arith; screen = refl; sends = tt; last = λ was. was };
  shown = λ last told was. IsUpToDate-over last document told;
}

-- it looks, and what may be collected is
shown_looking : (document : Document) (body : Body) →
    KeepsShown document (record (answered_step document body) { document = collected_document document })
unfolding MakesScreen UpdateWithin
shown_looking document body = record {
  most =
      screen_collected no_request document document None
      (record { few = omega arith; screen = refl; sends = tt; last = λ was. was });
  shown = λ last told was. IsUpToDate-over last document told;
}

-- a session acknowledges a revision, or ends
shown_session : (document : Document) (text : Writing) → text.history ≡ document.text.history →
    KeepsShown document (record (silent_step (with_text document text)) { document = collected_document (with_text document text) })
unfolding MakesScreen UpdateWithin
shown_session document text same = record {
  most =
      screen_collected no_request document (with_text document text) None
      (record { few = omega (arith, ap head same); screen = refl; sends = tt; last = λ was. was });
  shown = λ last told was. IsUpToDate-over last document told;
}

-- the front end is told what it lacks
shown_told : (document : Document) (step : EventStep) → KeepsStep no_request document step → KeepsShown document step
unfolding KeepsStep
shown_told document step keeps = record { most = keeps.most; shown = λ last told was. keeps.shown was }

one_revision : (revisions : List Revision) (last : Revision) → length (revisions ++ last ∷ []) ≤ length revisions + 1
one_revision revisions last = omega (arith, length-append revisions (last ∷ []))

pub shown_plugin : (document : Document) (event : Event) → is_by_plugin event ≡ true → KeepsShown document (event_step document event)
unfolding KeepsStep
shown_plugin document (Edited caller edit named) is =
    let next = given_document document caller edit named in
    shown_told document (event_step document (Edited caller edit named))
    (keeps_collected no_request document (settled no_request document next) (update_after no_request document next)
    (keeps_by no_request document next refl refl (one_revision document.text.history.revisions _)))
shown_plugin document (Spans caller rev start len spans) is =
    shown_told document (event_step document (Spans caller rev start len spans))
    (keeps_still document (styled_document document caller (asked_spans rev start len spans)) refl refl refl)
shown_plugin document (Read caller rev start max) is = shown_looking document _
shown_plugin document (Count caller) is = shown_looking document _
shown_plugin document (Ack caller rev) is = shown_session document (acknowledged_text document.text caller rev) refl
shown_plugin document (Ended caller) is = shown_session document (ended_text document.text caller) refl
shown_plugin document (Front act) is = absurd cc
shown_plugin document (Configured config) is = absurd cc
shown_plugin document Saved is = absurd cc
shown_plugin document Other is = absurd cc

-- each view's step does so
unfoldable pub ShowEach : (List ℕ → Run) → (OpenView → EventStep) → List OpenView → Type 0
ShowEach requests steps views =
    AllByRecursion (λ (view : OpenView). (last : Run) → IsUpToDate last view.document → IsLastTold view.document →
    IsUpToDate (requests view.id) (steps view).document) views

-- what an act of a plugin comes to is steps of these views that keep their screens and show their windows, where nothing is requested
module _ (views : List OpenView) (styles : List Style) (caller : ℕ) (requests : List ℕ → Run) (none : (id : List ℕ) → requests id ≡ no_request)
    (P : List OpenView → List ViewUpdate → Type 0)
    (steps : (each : OpenView → EventStep) → KeepScreens requests each views → ShowEach requests each views → P (stepped each views) (told_updates each views)) where
  screens_from : (each : OpenView → EventStep) (some : List OpenView) → AllByRecursion (λ (view : OpenView). KeepsShown view.document (each view)) some →
      KeepScreens requests each some
  unfolding KeepScreens
  screens_from each [] all = tt
  screens_from each (view ∷ some) all =
      let At : Run → Type 0 = λ request. KeepsScreen request view.document (each view).document (each view).update in
      (subst At (sym (none view.id)) all.0.most, screens_from each some all.1)

  show_from : (each : OpenView → EventStep) (some : List OpenView) → AllByRecursion (λ (view : OpenView). KeepsShown view.document (each view)) some →
      ShowEach requests each some
  unfolding ShowEach
  show_from each [] all = tt
  show_from each (view ∷ some) all =
      let At : Run → Type 0 = λ request. IsUpToDate request (each view).document in
      (λ last told was. subst At (sym (none view.id)) (all.0.shown last told was), show_from each some all.1)

  by_shown : (each : OpenView → EventStep) → AllByRecursion (λ (view : OpenView). KeepsShown view.document (each view)) views →
      P (stepped each views) (told_updates each views)
  by_shown each all = steps each (screens_from each views all) (show_from each views all)

  all_shown : (each : OpenView → EventStep) (some : List OpenView) → ((view : OpenView) → KeepsShown view.document (each view)) →
      AllByRecursion (λ (view : OpenView). KeepsShown view.document (each view)) some
  all_shown each [] keeps = tt
  all_shown each (view ∷ some) keeps = (keeps view, all_shown each some keeps)

  -- this one takes a step of its own
  one_or_none : (own : Bool) (view : OpenView) (step : EventStep) → (own ≡ true → KeepsShown view.document step) →
      KeepsShown view.document (if own then step else silent_step view.document)
  one_or_none true view step keeps = keeps refl
  one_or_none false view step keeps = shown_none view.document

  all_but_one : (id : List ℕ) (own : OpenView) (step : EventStep) (some : List OpenView) → own.id ≡ id → KeepsShown own.document step →
      OnlyOwn id own some → AllByRecursion (λ (view : OpenView). KeepsShown view.document (alone_step own step view)) some
  unfolding OnlyOwn
  all_but_one id own step [] is keeps only = tt
  all_but_one id own step (view ∷ some) is keeps only =
      let At : OpenView → Type 0 = λ v. KeepsShown v.document step in (
        one_or_none (bytes_eq own.id view.id) view step (λ same. subst At (only.0 (ap (λ name. bytes_eq name view.id) (sym is) ∙ same)) keeps),
        all_but_one id own step some is keeps only.1,
      )

  stays_shown : P views []
  stays_shown =
      let same = steps_none views in
      let At : List OpenView → Type 0 = λ after. P after [] in
      subst At (sym same.0) (subst (P (stepped no_step views)) (sym same.1) (by_shown no_step (all_shown no_step views (λ view. shown_none view.document))))

  own_shown : HasApart views → (id : List ℕ) (own : OpenView) (event : Event) → view_of views id ≡ Some own → is_by_plugin event ≡ true →
      P (with_document own.id (event_step own.document event).document views) (updates_for own.id (event_step own.document event).update)
  own_shown apart id own event found is =
      let step = event_step own.document event in
      let each = alone_step own step in
      let same = steps_alone views id own step apart found in
      let At : List OpenView → Type 0 = λ after. P after (updates_for own.id step.update) in
      subst At (sym same.0)
      (subst (P (stepped each views)) (sym same.1)
      (by_shown each
      (all_but_one id own step views (sym (id_is id own.id (view_of-found views id own found))) (shown_plugin own.document event is)
      (only_own id own views apart found))))

  pub by_plugin_steps : HasApart views → (asks : Act) → P (plugin_outcome views styles caller asks).views (plugin_outcome views styles caller asks).updates
  by_plugin_steps apart asks =
      by_plugin views styles caller P stays_shown
      (by_shown (ended_step caller) (all_shown (ended_step caller) views (λ view. shown_plugin view.document (Ended caller) refl)))
      (λ id own event found is. own_shown apart id own event found is) asks
