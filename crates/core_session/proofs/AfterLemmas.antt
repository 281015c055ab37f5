-- What holds of the views of every journal: their ids, and their screens, entry after entry.
use Rattle.session_step.specs.declared.terms.Terms.{Terms}
use Rattle.std.proofs.Common.{ℕ, ◌+◌, ◌≤◌, arith, Bool, true, false, List, [], ◌∷◌, Some, None, not, refl, inl, inr, ◌++◌}
use Rattle.std.specs.Prelude.{if◌then◌else◌, ◌^◌, ◌<◌, length}
use Rattle.std.specs.List.{AllByRecursion}
use Rattle.std.specs.Str.{bytes_eq}
use Rattle.xi_plain.specs.declared.command.Act.{Act}
use Rattle.xi_plain.specs.declared.command.Act.TheVariants.{NewView}
use Rattle.plain_text.specs.declared.run.Run.{Run}
use Rattle.xi_plain.specs.declared.entry.Entry.{Entry}
use Rattle.doc_session.specs.declared.event.Event.TheVariants.{Ended}
use Rattle.doc_session.specs.Document.{Document, loaded_document, no_request}
use Rattle.doc_session.specs.Stands.{IsLastTold}
use Rattle.doc_session.specs.Step.{EventStep, event_step}
use Rattle.session_step.specs.declared.given.Given.{Given}
use Rattle.session_step.specs.declared.given.Given.TheVariants as given
use Rattle.session_step.specs.PluginStep.{plugin_outcome}
use Rattle.session_step.specs.Views.{HasApart}
use Rattle.session_step.specs.Session.{OpenView, Session, first_session, views_of, outcome, next_view, opened_after, given_by, is_front, step, step_by, stepped, session_after, session_of, without, without_sessions}
use Rattle.session_step.proofs.ForCallers.{numbered_plugin, AreNumbered, numbered_none, numbered_push, numbered_without, numbered_stepped, apart-numbered}
use Rattle.core_session.proofs.StepLemmas.{KeepScreens, keep_screens, IsBase, by_outcome, by_views}
use Rattle.core_session.proofs.PluginStepLemmas.{by_plugin_steps}

-- ---- ids are those of rising numbers, up to how many were opened

pub numbered_base : (session : Session) (opened : ℕ) (base : List OpenView) → IsBase session opened base →
    AreNumbered 0 session.opened session.views → AreNumbered 0 opened base
unfolding IsBase
numbered_base session opened base (inl (many, is)) are = rw (many, is) are
numbered_base session opened base (inr (inl (text, many, is))) are =
    rw (many, is) (numbered_push 0 session.opened session.views (next_view session.terms session.ended session.config session.opened text) (omega arith) refl are)
numbered_base session opened base (inr (inr (id, many, is))) are = rw (many, is) (numbered_without id 0 session.opened session.views are)

pub numbered_step : (session : Session) (act : Act) (gave : Given) → AreNumbered 0 session.opened session.views →
    AreNumbered 0 (opened_after session.opened act gave) (outcome session act gave).views
numbered_step session act gave are =
    by_views session (AreNumbered 0) (λ opened base each is events. numbered_stepped each 0 opened base (numbered_base session opened base is are)) are act gave

-- after an entry of the front end or of a plugin
numbered_entry : (session : Session) (entry : Entry) → AreNumbered 0 session.opened session.views →
    AreNumbered 0 (step session entry).opened (step session entry).views
numbered_entry session entry are = by (is_front entry)
  where
    by : (front : Bool) → AreNumbered 0 (step_by front session entry).opened (step_by front session entry).views
    by true = numbered_step session entry.command.act (given_by entry.shelf) are
    by false = numbered_plugin session.views session.styles entry.caller entry.command.act 0 session.opened are

numbered_after : (session : Session) (entries : List Entry) → AreNumbered 0 session.opened session.views →
    AreNumbered 0 (session_after session entries).opened (session_after session entries).views
numbered_after session [] are = are
numbered_after session (entry ∷ entries) are = numbered_after (step session entry) entries (numbered_entry session entry are)

pub numbered_of : (terms : Terms) (journal : List Entry) → AreNumbered 0 (session_of terms journal).opened (views_of terms journal)
numbered_of terms journal = numbered_after (first_session terms) journal (numbered_none 0 0)

-- no more were opened than there are entries
pub opened_few : (opened : ℕ) (act : Act) (gave : Given) → opened_after opened act gave ≤ opened + 1
opened_few opened (NewView None) gave = omega arith
opened_few opened (NewView (Some path)) (given.Found text) = omega arith
opened_few opened (NewView (Some path)) given.NotText = omega arith
opened_few opened (NewView (Some path)) given.Nothing = omega arith
opened_few opened (NewView (Some path)) given.Failed = omega arith
opened_few opened (NewView (Some path)) given.Done = omega arith
opened_few opened act gave = omega arith

pub opened_more : (opened : ℕ) (act : Act) (gave : Given) → opened ≤ opened_after opened act gave
opened_more opened (NewView None) gave = omega arith
opened_more opened (NewView (Some path)) (given.Found text) = omega arith
opened_more opened (NewView (Some path)) given.NotText = omega arith
opened_more opened (NewView (Some path)) given.Nothing = omega arith
opened_more opened (NewView (Some path)) given.Failed = omega arith
opened_more opened (NewView (Some path)) given.Done = omega arith
opened_more opened act gave = omega arith

pub opened_entry : (session : Session) (entry : Entry) →
    (session.opened ≤ (step session entry).opened) × ((step session entry).opened ≤ session.opened + 1)
opened_entry session entry = by (is_front entry)
  where
    by : (front : Bool) → (session.opened ≤ (step_by front session entry).opened) × ((step_by front session entry).opened ≤ session.opened + 1)
    by true =
        let act = entry.command.act in
        let gave = given_by entry.shelf in
        (opened_more session.opened act gave, opened_few session.opened act gave)
    by false = (omega arith, omega arith)

opened_by : (session : Session) (entries : List Entry) → (session_after session entries).opened ≤ session.opened + length entries
opened_by session [] = omega arith
opened_by session (entry ∷ entries) =
    omega (arith, (opened_entry session entry).1, opened_by (step session entry) entries)

pub opened_of : (terms : Terms) (journal : List Entry) → (session_of terms journal).opened ≤ length journal
opened_of terms journal = omega (arith, opened_by (first_session terms) journal)

-- so the ids tell the views of a journal apart that has no more entries than there are numbers
pub apart_of : (terms : Terms) (journal : List Entry) → length journal < 2 ^ 63 → HasApart (views_of terms journal)
apart_of terms journal small =
    apart-numbered 0 (session_of terms journal).opened (views_of terms journal) (omega (arith, small, opened_of terms journal)) (numbered_of terms journal)

-- ---- screens are as the last updates left them

-- the ends of sessions leave them so
last_without : (callers : List ℕ) (document : Document) → IsLastTold document → IsLastTold (without_sessions callers document)
last_without [] document last = last
last_without (caller ∷ callers) document last = last_without callers (event_step document (Ended caller)).document last

unfoldable pub AreLastTold : List OpenView → Type 0
AreLastTold views = AllByRecursion (λ view. IsLastTold view.document) views

-- what holds of each view that was open, and of the next one, holds of those whose steps an outcome is
module _ (P : OpenView → Type 0) where
  all_push : (views : List OpenView) (next : OpenView) → P next → AllByRecursion P views → AllByRecursion P (views ++ next ∷ [])
  all_push [] next here all = (here, tt)
  all_push (view ∷ views) next here all = (all.0, all_push views next here all.1)

  pub all_without : (id : List ℕ) (views : List OpenView) → AllByRecursion P views → AllByRecursion P (without id views)
  all_without id [] all = tt
  all_without id (view ∷ views) all = by (bytes_eq id view.id) (all_without id views all.1)
    where
      by : (here : Bool) → AllByRecursion P (without id views) →
          AllByRecursion P (if not here then view ∷ without id views else without id views)
      by true rest = rest
      by false rest = (all.0, rest)

  pub all_base : (session : Session) (opened : ℕ) (base : List OpenView) → IsBase session opened base →
      ((text : List ℕ) → P (next_view session.terms session.ended session.config session.opened text)) → AllByRecursion P session.views → AllByRecursion P base
  unfolding IsBase
  all_base session opened base (inl (many, is)) next all = rw (is) all
  all_base session opened base (inr (inl (text, many, is))) next all =
      rw (is) (all_push session.views (next_view session.terms session.ended session.config session.opened text) (next text) all)
  all_base session opened base (inr (inr (id, many, is))) next all = rw (is) (all_without id session.views all)

pub last_base : (session : Session) (opened : ℕ) (base : List OpenView) → IsBase session opened base → AreLastTold session.views → AreLastTold base
unfolding AreLastTold
last_base session opened base is last =
    all_base (λ view. IsLastTold view.document) session opened base is
    (λ text. last_without session.ended (loaded_document text session.terms.plugins session.terms.limit session.config) refl) last

last_each : (requests : List ℕ → Run) (steps : OpenView → EventStep) (views : List OpenView) → KeepScreens requests steps views → AreLastTold views →
    AreLastTold (stepped steps views)
unfolding AreLastTold KeepScreens
last_each requests steps [] keep last = tt
last_each requests steps (view ∷ views) keep last = (keep.0.last last.0, last_each requests steps views keep.1 last.1)

last_step : (session : Session) (act : Act) (gave : Given) → HasApart session.views → AreLastTold session.views →
    AreLastTold (outcome session act gave).views
last_step session act gave apart last =
    by_outcome session (λ requests opened done. AreLastTold done.views)
    (λ requests opened base reply scroll each is keep.
    last_each requests each base (keep_screens requests each base keep) (last_base session opened base is last))
    (λ requests none. last) act gave apart

last_plugin : (session : Session) (caller : ℕ) (asks : Act) → HasApart session.views → AreLastTold session.views →
    AreLastTold (plugin_outcome session.views session.styles caller asks).views
last_plugin session caller asks apart last =
    by_plugin_steps session.views session.styles caller (λ id. no_request) (λ id. refl) (λ after updates. AreLastTold after)
    (λ each keep shown. last_each (λ id. no_request) each session.views keep last) apart asks

last_entry : (session : Session) (entry : Entry) → HasApart session.views → AreLastTold session.views → AreLastTold (step session entry).views
last_entry session entry apart last = by (is_front entry)
  where
    by : (front : Bool) → AreLastTold (step_by front session entry).views
    by true = last_step session entry.command.act (given_by entry.shelf) apart last
    by false = last_plugin session entry.caller entry.command.act apart last

last_after : (session : Session) (entries : List Entry) → session.opened + length entries < 2 ^ 63 → AreNumbered 0 session.opened session.views →
    AreLastTold session.views → AreLastTold (session_after session entries).views
last_after session [] small are last = last
last_after session (entry ∷ entries) small are last =
    let apart = apart-numbered 0 session.opened session.views (omega (arith, small)) are in
    last_after (step session entry) entries (omega (arith, small, (opened_entry session entry).1)) (numbered_entry session entry are)
    (last_entry session entry apart last)

pub last_of : (terms : Terms) (journal : List Entry) → length journal < 2 ^ 63 → AreLastTold (views_of terms journal)
unfolding AreLastTold
last_of terms journal small = last_after (first_session terms) journal (omega (arith, small)) (numbered_none 0 0) tt
