-- What an act of a plugin makes of the views: none takes a step, one does, or in each the plugin's session ends.
use Rattle.std.proofs.Common.{◌≡◌, ℕ, Bool, true, false, List, [], ◌∷◌, ◌++◌, Option, Some, None, refl, ap, sym, ◌∙◌, subst, append-nil}
use Rattle.std.specs.Prelude.{if◌then◌else◌}
use Rattle.std.specs.List.{AllByRecursion}
use Rattle.std.specs.Str.{bytes_eq, encode_utf8_all}
use Rattle.plain_edits.specs.declared.style.Style.{Style}
use Rattle.view_update.specs.declared.note.NumberedStyle.{NumberedStyle}
use Rattle.view_update.specs.declared.note.ViewUpdate.{ViewUpdate}
use Rattle.xi_plain.specs.declared.command.Act.{Act}
use Rattle.xi_plain.specs.declared.command.Act.TheVariants as act
use Rattle.doc_session.specs.declared.event.Event.{Event}
use Rattle.doc_session.specs.declared.event.Event.TheVariants.{Ack, Count, Edit, Ended, Read, Spans}
use Rattle.doc_session.specs.Document.{Document}
use Rattle.doc_session.specs.Step.{EventStep, event_step, silent_step}
use Rattle.style_numbers.specs.Numbers.{new_styles, spans_with_ids}
use Rattle.session_step.specs.PluginStep.{edit_by, ended_step, event_outcome, plugin_outcome, with_document}
use Rattle.session_step.specs.ViewSteps.{OpenView, named_view, stepped, told, updates_for, view_of}
use Rattle.session_step.specs.Views.{HasApart}
use Rattle.session_step.proofs.ViewLemmas.{AreNumbered, AreOthers, numbered_stepped, other_way, same_id}

-- whether a plugin asks so of a document
abbrev pub is_by_plugin : Event → Bool
is_by_plugin (Edit caller edit named) = true
is_by_plugin (Read caller rev start max) = true
is_by_plugin (Spans caller rev start len spans) = true
is_by_plugin (Count caller) = true
is_by_plugin (Ack caller rev) = true
is_by_plugin (Ended caller) = true
is_by_plugin event = false

-- WHAT HOLDS OF THE VIEWS AS THEY ARE, after a step of one of them that a plugin asked, and after the end of its session, holds of every act of it
module _ (views : List OpenView) (styles : List Style) (caller : ℕ) (P : List OpenView → List ViewUpdate → Type 0) (stays : P views [])
    (ends : P (stepped (ended_step caller) views) (told (ended_step caller) views))
    (own : (name : List ℕ) (view : OpenView) (event : Event) → view_of views name ≡ Some view → is_by_plugin event ≡ true →
    P (with_document view.id (event_step view.document event).document views) (updates_for view.id (event_step view.document event).update)) where
  in_view : (fresh : List NumberedStyle) (name : List ℕ) (event : Event) → is_by_plugin event ≡ true →
      P (event_outcome fresh views (named_view views name) event).views (event_outcome fresh views (named_view views name) event).updates
  in_view fresh name event is = by (named_view views name) refl
    where
      by : (found : Option OpenView) → named_view views name ≡ found →
          P (event_outcome fresh views found event).views (event_outcome fresh views found event).updates
      by None there = stays
      by (Some view) there = own (encode_utf8_all name) view event there is

  pub by_plugin : (asks : Act) → P (plugin_outcome views styles caller asks).views (plugin_outcome views styles caller asks).updates
  by_plugin (act.Alert msg) = stays
  by_plugin act.Ended = ends
  by_plugin (act.PluginEdit view rev delta priority after_cursor author named) =
      in_view (new_styles styles []) view (Edit caller (edit_by caller rev delta priority after_cursor) named) refl
  by_plugin (act.GetData view rev start max) = in_view (new_styles styles []) view (Read caller rev start max) refl
  by_plugin (act.UpdateSpans view rev start len spans) =
      in_view (new_styles styles spans) view (Spans caller rev start len (spans_with_ids styles spans)) refl
  by_plugin (act.LineCount view) = in_view (new_styles styles []) view (Count caller) refl
  by_plugin (act.Ack view rev) = in_view (new_styles styles []) view (Ack caller rev) refl
  by_plugin asks = stays

-- ---- a view with another document

-- what holds of each document and of the new one
module _ (P : Document → Type 0) where
  pub all_with_document : (id : List ℕ) (document : Document) (views : List OpenView) → P document →
      AllByRecursion (λ (view : OpenView). P view.document) views → AllByRecursion (λ (view : OpenView). P view.document) (with_document id document views)
  all_with_document id document [] new all = tt
  all_with_document id document (view ∷ views) new all = by (bytes_eq id view.id) (all_with_document id document views new all.1)
    where
      by : (here : Bool) → AllByRecursion (λ (view : OpenView). P view.document) (with_document id document views) →
          AllByRecursion (λ (view : OpenView). P view.document)
          (if here then record view { document = document } ∷ views else view ∷ with_document id document views)
      by true rest = (new, all.1)
      by false rest = (all.0, rest)

  -- and of one that was found among them
  pub all_found : (views : List OpenView) (id : List ℕ) (own : OpenView) → view_of views id ≡ Some own →
      AllByRecursion (λ (view : OpenView). P view.document) views → P own.document
  all_found [] id own found all = absurd cc
  all_found (view ∷ views) id own found all = by (bytes_eq id view.id) found (λ there. all_found views id own there all.1)
    where
      by : (here : Bool) → (if here then Some view else view_of views id) ≡ Some own → (view_of views id ≡ Some own → P own.document) → P own.document
      by true is later =
          let At : OpenView → Type 0 = λ v. P v.document in
          let same : view ≡ own = cc in
          subst At same all.0
      by false is later = later is

-- the ids are those of the same numbers
numbered_with : (id : List ℕ) (document : Document) (low high : ℕ) (views : List OpenView) → AreNumbered low high views →
    AreNumbered low high (with_document id document views)
unfolding AreNumbered
numbered_with id document low high [] are = tt
numbered_with id document low high (view ∷ views) are = by (bytes_eq id view.id) (numbered_with id document are.0 high views are.2)
  where
    by : (here : Bool) → AreNumbered are.0 high (with_document id document views) →
        AreNumbered low high (if here then record view { document = document } ∷ views else view ∷ with_document id document views)
    by true rest = (are.0, record { above = are.1.above; within = are.1.within; id = are.1.id }, are.2)
    by false rest = (are.0, record { above = are.1.above; within = are.1.within; id = are.1.id }, rest)

pub numbered_plugin : (views : List OpenView) (styles : List Style) (caller : ℕ) (asks : Act) (low high : ℕ) → AreNumbered low high views →
    AreNumbered low high (plugin_outcome views styles caller asks).views
numbered_plugin views styles caller asks low high are =
    by_plugin views styles caller (λ after updates. AreNumbered low high after) are (numbered_stepped (ended_step caller) low high views are)
    (λ name view event found is. numbered_with view.id (event_step view.document event).document low high views are) asks

-- ---- the same as steps of all views

-- the step of each view where this one alone takes one
abbrev pub alone_step : OpenView → EventStep → OpenView → EventStep
alone_step own step view = if bytes_eq own.id view.id then step else silent_step view.document

alone_others : (own : OpenView) (step : EventStep) (views : List OpenView) → AreOthers own.id views →
    (views ≡ stepped (alone_step own step) views) × ([] ≡ told (alone_step own step) views)
unfolding AreOthers
alone_others own step [] others = (refl, refl)
alone_others own step (view ∷ views) others =
    let rest = alone_others own step views others.1 in
    let here : silent_step view.document ≡ alone_step own step view = ap (λ same. if same then step else silent_step view.document) (sym others.0) in (
      ap (λ all. view ∷ all) rest.0 ∙ ap (λ (s : EventStep). record view { document = s.document } ∷ stepped (alone_step own step) views) here,
      rest.1 ∙ ap (λ (s : EventStep). updates_for view.id s.update ++ told (alone_step own step) views) here,
    )

-- a view that was found behind another one has another id
differs : (view own : OpenView) (views : List OpenView) (id : List ℕ) → view_of views id ≡ Some own →
    AllByRecursion (λ (later : OpenView). bytes_eq view.id later.id ≡ false) views → bytes_eq own.id view.id ≡ false
differs view own [] id found others = absurd cc
differs view own (next ∷ views) id found others = by (bytes_eq id next.id) found (λ there. differs view own views id there others.1)
  where
    by : (here : Bool) → (if here then Some next else view_of views id) ≡ Some own → (view_of views id ≡ Some own → bytes_eq own.id view.id ≡ false) →
        bytes_eq own.id view.id ≡ false
    by true is later =
        let At : OpenView → Type 0 = λ v. bytes_eq v.id view.id ≡ false in
        let same : next ≡ own = cc in
        subst At same (other_way next.id view.id ∙ others.0)
    by false is later = later is

-- its step is the only one
abbrev pub IsAlone : OpenView → EventStep → List OpenView → Type 0
IsAlone own step views =
    (with_document own.id step.document views ≡ stepped (alone_step own step) views) × (updates_for own.id step.update ≡ told (alone_step own step) views)

pub steps_alone : (views : List OpenView) (id : List ℕ) (own : OpenView) (step : EventStep) → HasApart views → view_of views id ≡ Some own →
    IsAlone own step views
unfolding AreOthers
steps_alone [] id own step apart found = absurd cc
steps_alone (view ∷ views) id own step apart found = by (bytes_eq id view.id) found (λ there. steps_alone views id own step apart.2 there)
  where
    mine : AreOthers own.id views → IsAlone own step (own ∷ views)
    mine others =
        let rest = alone_others own step views others in
        let here = same_id own.id in (
          ap (λ same. if same then record own { document = step.document } ∷ views else own ∷ with_document own.id step.document views) here ∙
              ap (λ all. record own { document = step.document } ∷ all) rest.0 ∙
              ap (λ same. record own { document = (if same then step else silent_step own.document).document } ∷ stepped (alone_step own step) views) (sym here),
          sym (append-nil (updates_for own.id step.update)) ∙ ap (λ all. updates_for own.id step.update ++ all) rest.1 ∙
              ap (λ same. updates_for own.id (if same then step else silent_step own.document).update ++ told (alone_step own step) views) (sym here),
        )

    behind : view_of views id ≡ Some own → IsAlone own step views → IsAlone own step (view ∷ views)
    behind there rest =
        let other : bytes_eq own.id view.id ≡ false = differs view own views id there apart.1 in (
          ap (λ same. if same then record view { document = step.document } ∷ views else view ∷ with_document own.id step.document views) other ∙
              ap (λ all. view ∷ all) rest.0 ∙
              ap (λ same. record view { document = (if same then step else silent_step view.document).document } ∷ stepped (alone_step own step) views) (sym other),
          rest.1 ∙ ap (λ same. updates_for view.id (if same then step else silent_step view.document).update ++ told (alone_step own step) views) (sym other),
        )

    by : (here : Bool) → (if here then Some view else view_of views id) ≡ Some own → (view_of views id ≡ Some own → IsAlone own step views) →
        IsAlone own step (view ∷ views)
    by true is later =
        let same : own ≡ view = sym cc in
        let At : OpenView → Type 0 = λ v. AreOthers v.id views in
        let Mine : OpenView → Type 0 = λ v. IsAlone own step (v ∷ views) in
        subst Mine same (mine (subst At (sym same) apart.1))
    by false is later = behind is (later is)

-- no view takes a step
abbrev pub no_step : OpenView → EventStep
no_step view = silent_step view.document

pub steps_none : (views : List OpenView) → (views ≡ stepped no_step views) × ([] ≡ told no_step views)
steps_none [] = (refl, refl)
steps_none (view ∷ views) = let rest = steps_none views in (ap (λ all. view ∷ all) rest.0, rest.1)
