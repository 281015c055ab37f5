-- A document has at most as many revisions as its journal has entries.
use Rattle.session_step.specs.declared.terms.Terms.{Terms}
use Rattle.std.proofs.Common.{◌≡◌, ℕ, ◌+◌, ◌≤◌, Bool, true, false, Some, refl, ◌∙◌, List, [], ◌∷◌, length, arith, subst}
use Rattle.std.proofs.lemmas.List.{length-replicate}
use Rattle.std.specs.List.{AllByRecursion}
use Rattle.xi_plain.specs.declared.command.Act.{Act}
use Rattle.xi_plain.specs.declared.config.Config.{Config}
use Rattle.xi_plain.specs.declared.entry.Entry.{Entry}
use Rattle.plain_edits.specs.History.{head}
use Rattle.doc_session.specs.declared.event.Event.{Event}
use Rattle.doc_session.specs.declared.event.Event.TheVariants.{Ack, Config as Configured, Count, Edit, Ended, Front, Other, Read, Saved, Spans}
use Rattle.doc_session.specs.Document.{Document, loaded_document}
use Rattle.doc_session.specs.Step.{EventStep, event_step}
use Rattle.session_step.specs.declared.given.Given.{Given}
use Rattle.session_step.specs.Session.{OpenView, HaveRevisions, Session, first_session, given_by, is_front, outcome, stepped, step, step_by, session_after, views_of, without_sessions}
use Rattle.session_step.specs.PluginStep.{ended_step, plugin_outcome}
use Rattle.session_step.proofs.ForCallers.{all_found, all_with_document, by_plugin, head-without_sessions, sessions-event_step}
use Rattle.core_session.proofs.SessionLemmas.{terms-step}
use Rattle.core_session.proofs.StepLemmas.{IsBase, KeepsStep, all_events, by_views, keeps_act, keeps_config, keeps_other, keeps_saved}
use Rattle.core_session.proofs.AfterLemmas.{all_base}
use Rattle.core_session.proofs.PluginStepLemmas.{shown_plugin}

-- the views one by one
few_steps : (n : ℕ) (views : List OpenView) (each : OpenView → EventStep) →
    ((view : OpenView) → head view.document.text.history ≤ n → head (each view).document.text.history ≤ n + 1) → HaveRevisions n views →
    HaveRevisions (n + 1) (stepped each views)
few_steps n [] each slow few = tt
few_steps n (view ∷ views) each slow few = (slow view few.0, few_steps n views each slow few.1)

few_more : (n : ℕ) (views : List OpenView) → HaveRevisions n views → HaveRevisions (n + 1) views
few_more n [] few = tt
few_more n (view ∷ views) few = (omega (arith, few.0), few_more n views few.1)

few_base : (n : ℕ) (session : Session) (opened : ℕ) (base : List OpenView) → IsBase session opened base → HaveRevisions n session.views → HaveRevisions n base
few_base n session opened base is few =
    all_base (λ (view : OpenView). head view.document.text.history ≤ n) session opened base is
    (λ text.
    omega (arith, head-without_sessions session.ended (loaded_document text session.terms.plugins session.terms.limit session.config))) few

-- an event is one revision at most
few_event : (document : Document) (event : Event) → head (event_step document event).document.text.history ≤ head document.text.history + 1
unfolding KeepsStep
few_event document (Front act) = (keeps_act document act).most.few
few_event document (Configured config) = (keeps_config config document).most.few
few_event document Saved = (keeps_saved document).most.few
few_event document Other = (keeps_other document).most.few
few_event document (Edit caller edit named) = (shown_plugin document (Edit caller edit named) refl).most.few
few_event document (Spans caller rev start len spans) = (shown_plugin document (Spans caller rev start len spans) refl).most.few
few_event document (Read caller rev start max) = (shown_plugin document (Read caller rev start max) refl).most.few
few_event document (Count caller) = (shown_plugin document (Count caller) refl).most.few
few_event document (Ack caller rev) = (shown_plugin document (Ack caller rev) refl).most.few
few_event document (Ended caller) = (shown_plugin document (Ended caller) refl).most.few

few_step : (n : ℕ) (session : Session) (act : Act) (gave : Given) → HaveRevisions n session.views → HaveRevisions (n + 1) (outcome session act gave).views
few_step n session act gave few =
    by_views session (λ opened views. HaveRevisions (n + 1) views)
    (λ opened base each is events.
    few_steps n base each
    (all_events (λ document. head document.text.history ≤ n) (λ document. head document.text.history ≤ n + 1)
    (λ document event here. omega (arith, here, few_event document event)) session each events few)
    (few_base n session opened base is few)) (few_more n session.views few) act gave

few_plugin : (n : ℕ) (session : Session) (caller : ℕ) (asks : Act) → HaveRevisions n session.views →
    HaveRevisions (n + 1) (plugin_outcome session.views session.styles caller asks).views
few_plugin n session caller asks few =
    by_plugin session.views session.styles caller (λ after updates. HaveRevisions (n + 1) after) (few_more n session.views few)
    (few_steps n session.views (ended_step caller) (λ view here. omega (arith, here, few_event view.document (Ended caller))) few)
    (λ id own event found is.
    all_with_document (λ (document : Document). head document.text.history ≤ n + 1) own.id (event_step own.document event).document session.views
    (omega (
      arith,
      all_found (λ (document : Document). head document.text.history ≤ n) session.views id own found few,
      few_event own.document event,
    )) (few_more n session.views few)) asks

few_entry : (n : ℕ) (session : Session) (entry : Entry) → HaveRevisions n session.views → HaveRevisions (n + 1) (step session entry).views
few_entry n session entry few = by (is_front entry)
  where
    by : (front : Bool) → HaveRevisions (n + 1) (step_by front session entry).views
    by true = few_step n session entry.command.act (given_by entry.shelf) few
    by false = few_plugin n session entry.caller entry.command.act few

few_after : (n : ℕ) (session : Session) (entries : List Entry) → HaveRevisions n session.views →
    HaveRevisions (n + length entries) (session_after session entries).views
few_after n session [] few =
    let At : ℕ → Type 0 = λ most. HaveRevisions most session.views in
    let same : n ≡ n + 0 = omega arith in
    subst At same few
few_after n session (entry ∷ entries) few =
    let At : ℕ → Type 0 = λ most. HaveRevisions most (session_after session (entry ∷ entries)).views in
    let same : n + 1 + length entries ≡ n + length (entry ∷ entries) = omega arith in
    subst At same (few_after (n + 1) (step session entry) entries (few_entry n session entry few))

pub revisions_few : (terms : Terms) (journal : List Entry) → HaveRevisions (length journal) (views_of terms journal)
revisions_few terms journal =
    let At : ℕ → Type 0 = λ most. HaveRevisions most (views_of terms journal) in
    let same : 0 + length journal ≡ length journal = omega arith in
    subst At same (few_after 0 (first_session terms) journal tt)

-- ---- what holds of a loaded document, and after each event, holds of all

module _ (P : Document → Type 0) (steps : (document : Document) (event : Event) → P document → P (event_step document event).document)
    (terms : Terms) (loaded : (text : List ℕ) (config : Config) → P (loaded_document text terms.plugins terms.limit config)) where
  abbrev All : List OpenView → Type 0
  All views = AllByRecursion (λ (view : OpenView). P view.document) views

  all_stepped : (each : OpenView → EventStep) (views : List OpenView) → ((view : OpenView) → P view.document → P (each view).document) →
      All views → All (stepped each views)
  all_stepped each [] keeps all = tt
  all_stepped each (view ∷ views) keeps all = (keeps view all.0, all_stepped each views keeps all.1)

  without_keeps : (callers : List ℕ) (document : Document) → P document → P (without_sessions callers document)
  without_keeps [] document here = here
  without_keeps (caller ∷ callers) document here =
      without_keeps callers (event_step document (Ended caller)).document (steps document (Ended caller) here)

  all_front : (session : Session) (act : Act) (gave : Given) → terms ≡ session.terms → All session.views → All (outcome session act gave).views
  all_front session act gave same all =
      by_views session (λ opened views. All views)
      (λ opened base each is events.
      all_stepped each base (all_events P P steps session each events all)
      (all_base (λ (view : OpenView). P view.document) session opened base is
      (λ text.
      let At : Terms → Type 0 = λ made. P (loaded_document text made.plugins made.limit session.config) in
      without_keeps session.ended (loaded_document text session.terms.plugins session.terms.limit session.config)
      (subst At same (loaded text session.config))) all)) all act gave

  all_plugin : (session : Session) (caller : ℕ) (asks : Act) → All session.views → All (plugin_outcome session.views session.styles caller asks).views
  all_plugin session caller asks all =
      by_plugin session.views session.styles caller (λ after updates. All after) all
      (all_stepped (ended_step caller) session.views (λ view here. steps view.document (Ended caller) here) all)
      (λ id own event found is.
      all_with_document P own.id (event_step own.document event).document session.views
      (steps own.document event (all_found P session.views id own found all)) all) asks

  all_entry : (session : Session) (entry : Entry) → terms ≡ session.terms → All session.views → All (step session entry).views
  all_entry session entry same all = by (is_front entry)
    where
      by : (front : Bool) → All (step_by front session entry).views
      by true = all_front session entry.command.act (given_by entry.shelf) same all
      by false = all_plugin session entry.caller entry.command.act all

  all_after : (session : Session) (entries : List Entry) → terms ≡ session.terms → All session.views → All (session_after session entries).views
  all_after session [] same all = all
  all_after session (entry ∷ entries) same all =
      all_after (step session entry) entries (same ∙ terms-step session entry) (all_entry session entry same all)

  pub all_documents : (journal : List Entry) → All (views_of terms journal)
  all_documents journal = all_after (first_session terms) journal refl tt

-- EACH DOCUMENT HAS A SESSION of each plugin, which may have ended
pub sessions_of : (terms : Terms) (journal : List Entry) →
    AllByRecursion (λ (view : OpenView). length view.document.text.sessions ≡ terms.plugins) (views_of terms journal)
sessions_of terms journal =
    all_documents (λ document. length document.text.sessions ≡ terms.plugins) (λ document event same. sessions-event_step document event ∙ same) terms
    (λ text config. length-replicate terms.plugins (Some 0)) journal
