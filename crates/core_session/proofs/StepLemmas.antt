-- What every step of an open view keeps, and what every outcome is: steps of the views that were open, of one more or of all but one, or
-- the closing.
use Rattle.std.proofs.Common.{◌≡◌, ℕ, ◌+◌, ◌≤◌, arith, Bool, true, false, List, [], ◌∷◌, Option, Some, None, refl, ap, sym, ◌∙◌, subst, inl, inr, ◌++◌}
use Rattle.std.specs.Prelude.{if◌then◌else◌, IfSome, ◌⊎◌, ⊤}
use Rattle.std.specs.List.{AllByRecursion}
use Rattle.std.specs.Str.{encode_utf8_all, bytes_eq}
use Rattle.xi_plain.specs.declared.command.EditAct.{EditAct}
use Rattle.xi_plain.specs.declared.command.Act.{Act}
use Rattle.xi_plain.specs.declared.command.Act.TheVariants.{Bad, Nothing, Configure, NewView, CloseView, Save, Edit, Closing}
use Rattle.xi_plain.specs.declared.config.Config.{Config}
use Rattle.plain_edits.specs.Edits.{Refusal}
use Rattle.plain_edits.specs.History.{head}
use Rattle.plain_screen.specs.Screen.{Screen, screen_after}
use Rattle.plain_screen.specs.declared.screen.Update.{Update}
use Rattle.doc_layout.specs.Told.{planned, screen_of}
use Rattle.doc_view.specs.declared.told.Pristine.{Pristine}
use Rattle.doc_view.specs.Told.{is_lacking, told}
use Rattle.doc_view.specs.View.{View, asked_in, layout_in}
use Rattle.plain_text.specs.declared.run.Run.{Run}
use Rattle.view_update.specs.declared.note.Scroll.{Scroll}
use Rattle.doc_session.specs.declared.event.Event.{Event}
use Rattle.doc_session.specs.declared.event.Event.TheVariants.{Config as Configured, Front, Other, Saved}
use Rattle.doc_session.specs.Document.{Document, layout_of, no_request}
use Rattle.doc_view.specs.declared.looking.Viewing.TheVariants.{Layout, Other as NoCommand}
use Rattle.doc_session.specs.ScreenOf.{IsUpToDate}
use Rattle.doc_session.specs.Stands.{IsLastTold}
use Rattle.doc_text.specs.Refusal.{edit_refused}
use Rattle.doc_text.specs.Writing.{Writing}
use Rattle.doc_text.proofs.ForCallers.{part-collected}
use Rattle.doc_session.specs.Effects.{pristine_from, screen_told, settled, update_after}
use Rattle.doc_session.specs.Step.{EventStep, event_step, act_step, collected_document, command_refusal, effect_on, refusal_at, request_of, saved_document, viewed_document}
use Rattle.doc_session.proofs.ForCallers.{by_front, IsLastTold-settled, IsUpToDate-settled, part-settled, request_of-refused, updates_show}
use Rattle.entry_lines.specs.Answer.{Reply, spent}
use Rattle.session_step.specs.declared.given.Given.{Given}
use Rattle.session_step.specs.declared.given.Given.TheVariants as given
use Rattle.session_step.specs.Views.{HasApart}
use Rattle.session_step.specs.Session.{OpenView, Session, view_of, named_view, Outcome, outcome, config_with, config_step, taking, leaving, keeping, next_view, opened_after, open_outcome, other_step, own_step, close_outcome, edit_came, edit_outcome, save_outcome, spent_total, step, stepped, without}
use Rattle.core_session.specs.Shows.{SendsWithin, requested}
use Rattle.core_session.proofs.PlanLemmas.{sends-plan_from}
use Rattle.session_step.proofs.ForCallers.{id_is, view_of-found, OnlyOwn, only_own, all_found}

-- the update, where there is one, makes this screen of that, and sends lines of this window, or requested, alone
unfoldable pub MakesScreen : Option Update → Screen → Screen → Type 0
MakesScreen None before after = after ≡ before
MakesScreen (Some update) before after = screen_after before update.ops ≡ Some after

unfoldable pub UpdateWithin : Option Update → Run → Run → Type 0
UpdateWithin None window request = ⊤
UpdateWithin (Some update) window request = SendsWithin window request 0 update.ops

-- after a step there is one revision more at most; the front end has the document's screen by the update, and was sent its window and
-- what was requested alone; and where its screen was as the last update left it, it is so then
pub record KeepsScreen (request : Run) (before after : Document) (update : Option Update) : Type 0 where
  pub few : head after.text.history ≤ head before.text.history + 1
  pub screen : MakesScreen update before.screen after.screen
  pub sends : UpdateWithin update after.view.window request
  pub last : IsLastTold before → IsLastTold after

-- and it has what was asked for
pub record Keeps (request : Run) (before after : Document) (update : Option Update) : Type 0 where
  pub most : KeepsScreen request before after update
  pub shown : IsLastTold before → IsUpToDate request after

unfoldable pub KeepsStep : Run → Document → EventStep → Type 0
KeepsStep request document step = Keeps request document step.document step.update

-- an update that is told makes the screen, and where none is told it stays
makes_screen : (update : Option Update) (before next : Screen) → next ≡ before →
    IfSome update (λ (update : Update). screen_after before update.ops ≡ Some (screen_told (Some update) next)) →
    MakesScreen update before (screen_told update next)
unfolding MakesScreen
makes_screen None before next same made = same
makes_screen (Some update) before next same made = made

sends_told : (request : Run) (before next : View) (pristine : Pristine) → UpdateWithin (told before next request pristine) next.window request
unfolding UpdateWithin
sends_told request before next pristine = by (is_lacking before next request pristine)
  where
    by : (b : Bool) → UpdateWithin (if b then Some (planned (asked_in next request) (layout_in next) pristine.after) else None) next.window request
    by true = sends-plan_from next.window request (layout_in next) 0 0
    by false = tt

pub keeps_by : (request : Run) (before next : Document) → next.view.shown ≡ before.view.shown → next.screen ≡ before.screen →
    head next.text.history ≤ head before.text.history + 1 → Keeps request before (settled request before next) (update_after request before next)
keeps_by request before next shown same one = record {
  most = record {
    few = one;
    screen = makes_screen (update_after request before next) before.screen next.screen same made;
    sends = subst (λ window. UpdateWithin (update_after request before next) window request)
        (sym (part-settled (λ (v : View). v.window) before.view next.view request (pristine_from before next) refl))
        (sends_told request before.view next.view (pristine_from before next));
    last = λ was. IsLastTold-settled before next request (was ∙ stays) same;
  };
  shown = λ was. IsUpToDate-settled before next request (was ∙ stays) same;
}
  where
    stays : screen_of before.view.shown (layout_of before) ≡ screen_of next.view.shown (layout_of before)
    stays = ap (λ last. screen_of last (layout_of before)) (sym shown)

    told_by : Bool → Option Update
    told_by b = if b then Some (planned (asked_in next.view request) (layout_in next.view) (pristine_from before next).after) else None

    by : (b : Bool) → IfSome (told_by b) (λ (update : Update). screen_after before.screen update.ops ≡ Some (screen_told (told_by b) next.screen)) →
        IfSome (told_by b) (λ (update : Update). screen_after before.screen update.ops ≡ Some (screen_told (Some update) next.screen))
    by true is = is
    by false is = tt

    made : IfSome (update_after request before next) (λ (update : Update). screen_after before.screen update.ops ≡ Some (screen_told (Some update) next.screen))
    made = by (is_lacking before.view next.view request (pristine_from before next)) (updates_show before next request)

-- a collection changes none of this
pub screen_collected : (request : Run) (before next : Document) (update : Option Update) → KeepsScreen request before next update →
    KeepsScreen request before (collected_document next) update
unfolding MakesScreen UpdateWithin
screen_collected request before next update keeps = record {
  few = omega (arith, keeps.few, part-collected (λ (text : Writing). head text.history) next.text (λ found. refl));
  screen = keeps.screen;
  sends = keeps.sends;
  last = keeps.last;
}

pub keeps_collected : (request : Run) (before next : Document) (update : Option Update) → Keeps request before next update →
    Keeps request before (collected_document next) update
keeps_collected request before next update keeps =
    record { most = screen_collected request before next update keeps.most; shown = keeps.shown }

-- a line that only looks, and is no command
pub keeps_still : (document next : Document) → next.text.history ≡ document.text.history → next.view.shown ≡ document.view.shown → next.screen ≡ document.screen →
    Keeps no_request document (collected_document (settled no_request document next)) (update_after no_request document next)
keeps_still document next same shown screen =
    keeps_collected no_request document (settled no_request document next) (update_after no_request document next)
    (keeps_by no_request document next shown screen (omega (arith, ap head same)))

pub keeps_other : (document : Document) → KeepsStep no_request document (event_step document Other)
unfolding KeepsStep
keeps_other document = keeps_still document (viewed_document document NoCommand) refl refl refl

pub keeps_config : (config : Config) (document : Document) → KeepsStep no_request document (event_step document (Configured config))
unfolding KeepsStep
keeps_config config document = keeps_still document (viewed_document document (Layout config)) refl refl refl

pub keeps_saved : (document : Document) → KeepsStep no_request document (event_step document Saved)
unfolding KeepsStep
keeps_saved document = keeps_still document (saved_document document) refl refl refl

pub keeps_act : (document : Document) (act : EditAct) → KeepsStep (request_of act) document (event_step document (Front act))
unfolding KeepsStep
keeps_act document act =
    keeps_collected (request_of act) document (act_step document act).document (act_step document act).update
    (by_front (λ step. Keeps (request_of act) document step.document step.update) document act
    (λ next body scroll same leaves.
    keeps_by (request_of act) document next leaves.shown leaves.screen (omega (arith, ap head same)))
    (λ next body scroll one_more leaves.
    keeps_by (request_of act) document next leaves.shown leaves.screen (omega (arith, one_more))))

-- each view's step keeps this, with what is requested of the view
unfoldable pub KeepEach : (List ℕ → Run) → (OpenView → EventStep) → List OpenView → Type 0
KeepEach requests steps views = AllByRecursion (λ view. KeepsStep (requests view.id) view.document (steps view)) views

-- the screens are kept, whatever is shown
unfoldable pub KeepScreens : (List ℕ → Run) → (OpenView → EventStep) → List OpenView → Type 0
KeepScreens requests steps views =
    AllByRecursion (λ view. KeepsScreen (requests view.id) view.document (steps view).document (steps view).update) views

pub keep_screens : (requests : List ℕ → Run) (steps : OpenView → EventStep) (views : List OpenView) → KeepEach requests steps views →
    KeepScreens requests steps views
unfolding KeepEach KeepsStep KeepScreens
keep_screens requests steps [] keep = tt
keep_screens requests steps (view ∷ views) keep = (keep.0.most, keep_screens requests steps views keep.1)

-- ---- what is requested of a view

-- nothing is requested of these views
unfoldable pub NoneRequested : (List ℕ → Run) → List OpenView → Type 0
NoneRequested requests views = AllByRecursion (λ view. requests view.id ≡ no_request) views

nothing_requested : (requests : List ℕ → Run) (views : List OpenView) → ((id : List ℕ) → requests id ≡ no_request) → NoneRequested requests views
unfolding NoneRequested
nothing_requested requests [] none = tt
nothing_requested requests (view ∷ views) none = (none view.id, nothing_requested requests views none)

keep_each : (requests : List ℕ → Run) (steps : OpenView → EventStep) (views : List OpenView) →
    ((view : OpenView) → KeepsStep no_request view.document (steps view)) → NoneRequested requests views → KeepEach requests steps views
unfolding KeepEach NoneRequested
keep_each requests steps [] keep none = tt
keep_each requests steps (view ∷ views) keep none =
    let At : Run → Type 0 = λ request. KeepsStep request view.document (steps view) in
    (subst At (sym none.0) (keep view), keep_each requests steps views keep none.1)

keep_others : (requests : List ℕ → Run) (views : List OpenView) → NoneRequested requests views → KeepEach requests other_step views
keep_others requests views none = keep_each requests other_step views (λ view. keeps_other view.document) none

-- nor is it where the view that was named is not there
none_found : (views : List OpenView) (name : List ℕ) (act : EditAct) → named_view views name ≡ None → NoneRequested (requested (Edit name act)) views
unfolding NoneRequested
none_found [] name act found = tt
none_found (view ∷ views) name act found = by (bytes_eq (encode_utf8_all name) view.id) refl found (λ there. none_found views name act there)
  where
    by : (here : Bool) → bytes_eq (encode_utf8_all name) view.id ≡ here → (if here then Some view else named_view views name) ≡ None →
        (named_view views name ≡ None → NoneRequested (requested (Edit name act)) views) → NoneRequested (requested (Edit name act)) (view ∷ views)
    by true is there later = absurd cc
    by false is there later = (ap (λ here. if here then request_of act else no_request) is, later there)

-- nothing, where it is the same as nothing
none_both : (act : EditAct) (name : List ℕ) → request_of act ≡ no_request → (id : List ℕ) → requested (Edit name act) id ≡ no_request
none_both act name none id = by (bytes_eq (encode_utf8_all name) id)
  where
    by : (here : Bool) → (if here then request_of act else no_request) ≡ no_request
    by true = none
    by false = refl

-- an edit whose characters would be spent requests nothing
spent_none : (document : Document) (act : EditAct) (refusal : Option Refusal) (total : ℕ) → command_refusal document (effect_on document act) ≡ refusal →
    spent_total (edit_refused refusal) ≡ Some total → request_of act ≡ no_request
spent_none document act (Some refusal) total is all = request_of-refused document act refusal is
spent_none document act None total is all = absurd cc

-- the view that was named takes its own step, with what the edit requests, and each other one the other step, with no request
keeps_own : (own here : Bool) (act : EditAct) (view : OpenView) (step : EventStep) → own ≡ here →
    (here ≡ true → KeepsStep (request_of act) view.document step) →
    KeepsStep (if here then request_of act else no_request) view.document (if own then step else other_step view)
keeps_own true true act view step is keeps = keeps refl
keeps_own false false act view step is keeps = keeps_other view.document
keeps_own true false act view step is keeps = absurd cc
keeps_own false true act view step is keeps = absurd cc

keep_each_own : (name : List ℕ) (act : EditAct) (own : OpenView) (step : EventStep) (views : List OpenView) → own.id ≡ encode_utf8_all name →
    KeepsStep (request_of act) own.document step → OnlyOwn (encode_utf8_all name) own views → KeepEach (requested (Edit name act)) (own_step own step) views
unfolding KeepEach OnlyOwn
keep_each_own name act own step [] is keeps only = tt
keep_each_own name act own step (view ∷ views) is keeps only =
    let At : OpenView → Type 0 = λ v. KeepsStep (request_of act) v.document step in (
      keeps_own (bytes_eq own.id view.id) (bytes_eq (encode_utf8_all name) view.id) act view step (ap (λ id. bytes_eq id view.id) is)
          (λ here. subst At (only.0 here) keeps),
      keep_each_own name act own step views is keeps only.1,
    )

keep_own : (views : List OpenView) (name : List ℕ) (own : OpenView) (act : EditAct) (step : EventStep) → HasApart views →
    named_view views name ≡ Some own → KeepsStep (request_of act) own.document step → KeepEach (requested (Edit name act)) (own_step own step) views
keep_own views name own act step apart found keeps =
    let id = encode_utf8_all name in
    keep_each_own name act own step views (sym (id_is id own.id (view_of-found views id own found))) keeps (only_own id own views apart found)

-- the view that is saved takes its own step, and each other one the other step, with no request
saved_or_other : (own : Bool) (view : OpenView) (step : EventStep) → (own ≡ true → KeepsStep no_request view.document step) →
    KeepsStep no_request view.document (if own then step else other_step view)
saved_or_other true view step keeps = keeps refl
saved_or_other false view step keeps = keeps_other view.document

keep_each_saved : (id : List ℕ) (own : OpenView) (step : EventStep) (views : List OpenView) → own.id ≡ id → KeepsStep no_request own.document step →
    OnlyOwn id own views → KeepEach (λ _. no_request) (own_step own step) views
unfolding KeepEach OnlyOwn
keep_each_saved id own step [] is keeps only = tt
keep_each_saved id own step (view ∷ views) is keeps only =
    let At : OpenView → Type 0 = λ v. KeepsStep no_request v.document step in (
      saved_or_other (bytes_eq own.id view.id) view step
          (λ same. subst At (only.0 (ap (λ name. bytes_eq name view.id) (sym is) ∙ same)) keeps),
      keep_each_saved id own step views is keeps only.1,
    )

keep_saved : (views : List OpenView) (name : List ℕ) (own : OpenView) → HasApart views → named_view views name ≡ Some own →
    KeepEach (λ _. no_request) (own_step own (event_step own.document Saved)) views
keep_saved views name own apart found =
    let id = encode_utf8_all name in
    keep_each_saved id own (event_step own.document Saved) views (sym (id_is id own.id (view_of-found views id own found)))
    (keeps_saved own.document) (only_own id own views apart found)

-- ---- what every outcome is

-- the views whose steps it is: those that were open, the next one behind them, or all but one; and how many were opened by then
unfoldable pub IsBase : Session → ℕ → List OpenView → Type 0
IsBase session opened base =
    ((opened ≡ session.opened) × (base ≡ session.views)) ⊎
    (((text : List ℕ) × (opened ≡ session.opened + 1) × (base ≡ session.views ++ next_view session.terms session.ended session.config session.opened text ∷ [])) ⊎
    ((id : List ℕ) × (opened ≡ session.opened) × (base ≡ without id session.views)))

base_same : (session : Session) → IsBase session session.opened session.views
unfolding IsBase
base_same session = inl (refl, refl)

base_next : (session : Session) (text : List ℕ) →
    IsBase session (session.opened + 1) (session.views ++ next_view session.terms session.ended session.config session.opened text ∷ [])
unfolding IsBase
base_next session text = inr (inl (text, refl, refl))

base_without : (session : Session) (id : List ℕ) → IsBase session session.opened (without id session.views)
unfolding IsBase
base_without session id = inr (inr (id, refl, refl))

-- what holds of each answered step of such views and of the closing holds of every outcome
module _ (session : Session) (P : (List ℕ → Run) → ℕ → Outcome → Type 0)
    (steps : (requests : List ℕ → Run) (opened : ℕ) (base : List OpenView) (reply : Reply) (scroll : Option Scroll) (each : OpenView → EventStep) →
    IsBase session opened base → KeepEach requests each base → P requests opened (taking reply scroll each base))
    (leaves : (requests : List ℕ → Run) → NoneRequested requests session.views → P requests session.opened (leaving session.views)) where
  still : (requests : List ℕ → Run) (opened : ℕ) (base : List OpenView) (reply : Reply) → IsBase session opened base → NoneRequested requests base →
      P requests opened (keeping base reply)
  still requests opened base reply is none = steps requests opened base reply None other_step is (keep_others requests base none)

  came : (name : List ℕ) (own : OpenView) (total : Option ℕ) (act : EditAct) → HasApart session.views → named_view session.views name ≡ Some own →
      spent_total (refusal_at own.document (Front act)) ≡ total →
      P (requested (Edit name act)) session.opened (edit_came session.views own total (event_step own.document (Front act)))
  came name own (Some total) act apart found is =
      still (requested (Edit name act)) session.opened session.views spent (base_same session)
      (nothing_requested (requested (Edit name act)) session.views
      (none_both act name (spent_none own.document act (command_refusal own.document (effect_on own.document act)) total refl is)))
  came name own None act apart found is =
      steps (requested (Edit name act)) session.opened session.views _ _ (own_step own (event_step own.document (Front act))) (base_same session)
      (keep_own session.views name own act (event_step own.document (Front act)) apart found (keeps_act own.document act))

  edits : (name : List ℕ) (found : Option OpenView) (act : EditAct) → HasApart session.views → named_view session.views name ≡ found →
      P (requested (Edit name act)) session.opened (edit_outcome session.views found act)
  edits name None act apart is = still (requested (Edit name act)) session.opened session.views _ (base_same session) (none_found session.views name act is)
  edits name (Some own) act apart is = came name own (spent_total (refusal_at own.document (Front act))) act apart is refl

  -- an act that requests nothing
  idle : (act : Act) (opened : ℕ) (base : List OpenView) (reply : Reply) → IsBase session opened base → ((id : List ℕ) → requested act id ≡ no_request) →
      P (requested act) opened (keeping base reply)
  idle act opened base reply is none = still (requested act) opened base reply is (nothing_requested (requested act) base none)

  stays : (act : Act) (reply : Reply) → ((id : List ℕ) → requested act id ≡ no_request) → P (requested act) session.opened (keeping session.views reply)
  stays act reply none = idle act session.opened session.views reply (base_same session) none

  saves : (name path : List ℕ) (found : Option OpenView) (gave : Given) → HasApart session.views → named_view session.views name ≡ found →
      P (requested (Save name path)) session.opened (save_outcome session.views found gave)
  saves name path None gave apart is = stays (Save name path) _ (λ id. refl)
  saves name path (Some own) given.Done apart is =
      steps (requested (Save name path)) session.opened session.views _ _ (own_step own (event_step own.document Saved)) (base_same session)
      (keep_saved session.views name own apart is)
  saves name path (Some own) given.Nothing apart is = stays (Save name path) _ (λ id. refl)
  saves name path (Some own) (given.Found text) apart is = stays (Save name path) _ (λ id. refl)
  saves name path (Some own) given.NotText apart is = stays (Save name path) _ (λ id. refl)
  saves name path (Some own) given.Failed apart is = stays (Save name path) _ (λ id. refl)

  opens : (path : Option (List ℕ)) (gave : Given) →
      P (requested (NewView path)) (opened_after session.opened (NewView path) gave)
      (open_outcome session.terms session.ended session.config session.opened session.views path gave)
  opens None gave = idle (NewView None) (session.opened + 1) _ _ (base_next session []) (λ id. refl)
  opens (Some path) (given.Found text) = idle (NewView (Some path)) (session.opened + 1) _ _ (base_next session text) (λ id. refl)
  opens (Some path) given.NotText = stays (NewView (Some path)) _ (λ id. refl)
  opens (Some path) given.Nothing = stays (NewView (Some path)) _ (λ id. refl)
  opens (Some path) given.Failed = stays (NewView (Some path)) _ (λ id. refl)
  opens (Some path) given.Done = stays (NewView (Some path)) _ (λ id. refl)

  closes : (name : List ℕ) (found : Option OpenView) → P (requested (CloseView name)) session.opened (close_outcome session.views found)
  closes name None = stays (CloseView name) _ (λ id. refl)
  closes name (Some own) = idle (CloseView name) session.opened (without own.id session.views) _ (base_without session own.id) (λ id. refl)

  pub by_outcome : (act : Act) (gave : Given) → HasApart session.views → P (requested act) (opened_after session.opened act gave) (outcome session act gave)
  by_outcome (Edit name act) gave apart = edits name (named_view session.views name) act apart refl
  by_outcome (CloseView name) gave apart = closes name (named_view session.views name)
  by_outcome (Save name path) gave apart = saves name path (named_view session.views name) gave apart refl
  by_outcome Closing gave apart = leaves (requested Closing) (nothing_requested (requested Closing) session.views (λ id. refl))
  by_outcome (NewView path) gave apart = opens path gave
  by_outcome (Configure changes) gave apart =
      let next = config_with session.config changes in
      steps (requested (Configure changes)) session.opened session.views _ _ (config_step next) (base_same session)
      (keep_each (requested (Configure changes)) (config_step next) session.views (λ view. keeps_config next view.document)
      (nothing_requested (requested (Configure changes)) session.views (λ id. refl)))
  by_outcome (Bad fault) gave apart = stays (Bad fault) _ (λ id. refl)
  by_outcome Nothing gave apart = stays Nothing _ (λ id. refl)
  by_outcome act gave apart = stays act _ (λ id. refl)

-- ---- the views of every outcome, whatever their ids

-- each view's step is that of an event: in its own document, or in that of a view that was found
unfoldable pub AreEvents : Session → (OpenView → EventStep) → Type 0
AreEvents session each = (view : OpenView) → (event : Event) × (from : Document) × (each view ≡ event_step from event) ×
    ((from ≡ view.document) ⊎ ((id : List ℕ) × (own : OpenView) × (view_of session.views id ≡ Some own) × (from ≡ own.document)))

events_other : (session : Session) → AreEvents session other_step
unfolding AreEvents
events_other session view = (Other, view.document, refl, inl refl)

events_config : (session : Session) (config : Config) → AreEvents session (config_step config)
unfolding AreEvents
events_config session config view = (Configured config, view.document, refl, inl refl)

events_own : (session : Session) (id : List ℕ) (own : OpenView) (event : Event) → view_of session.views id ≡ Some own →
    AreEvents session (own_step own (event_step own.document event))
unfolding AreEvents
events_own session id own event found view = by (bytes_eq own.id view.id)
  where
    by : (same : Bool) → (asks : Event) × (from : Document) ×
        ((if same then event_step own.document event else other_step view) ≡ event_step from asks) ×
        ((from ≡ view.document) ⊎ ((id : List ℕ) × (own : OpenView) × (view_of session.views id ≡ Some own) × (from ≡ own.document)))
    by true = (event, own.document, refl, inr (id, own, found, refl))
    by false = (Other, view.document, refl, inl refl)

-- what an event makes of what holds of a document holds after each of these
pub all_events : (P Q : Document → Type 0) → ((document : Document) (event : Event) → P document → Q (event_step document event).document) →
    (session : Session) (each : OpenView → EventStep) → AreEvents session each → AllByRecursion (λ (view : OpenView). P view.document) session.views →
    (view : OpenView) → P view.document → Q (each view).document
unfolding AreEvents
all_events P Q steps session each are all view here = by (are view)
  where
    by : ((event : Event) × (from : Document) × (each view ≡ event_step from event) ×
        ((from ≡ view.document) ⊎ ((id : List ℕ) × (own : OpenView) × (view_of session.views id ≡ Some own) × (from ≡ own.document)))) →
        Q (each view).document
    by (event, from, is, inl same) =
        subst (λ (step : EventStep). Q step.document) (sym is) (steps from event (subst P (sym same) here))
    by (event, from, is, inr (id, own, found, same)) =
        subst (λ (step : EventStep). Q step.document) (sym is) (steps from event (subst P (sym same) (all_found P session.views id own found all)))

module _ (session : Session) (P : ℕ → List OpenView → Type 0)
    (steps : (opened : ℕ) (base : List OpenView) (each : OpenView → EventStep) → IsBase session opened base → AreEvents session each →
    P opened (stepped each base))
    (leaves : P session.opened session.views) where
  views_still : (opened : ℕ) (base : List OpenView) → IsBase session opened base → P opened (stepped other_step base)
  views_still opened base is = steps opened base other_step is (events_other session)

  views_same : P session.opened (stepped other_step session.views)
  views_same = views_still session.opened session.views (base_same session)

  views_edited : (name : List ℕ) (found : Option OpenView) (act : EditAct) → named_view session.views name ≡ found →
      P session.opened (edit_outcome session.views found act).views
  views_edited name None act is = views_same
  views_edited name (Some own) act is = by (spent_total (refusal_at own.document (Front act)))
    where
      by : (total : Option ℕ) → P session.opened (edit_came session.views own total (event_step own.document (Front act))).views
      by None =
          steps session.opened session.views (own_step own (event_step own.document (Front act))) (base_same session)
          (events_own session (encode_utf8_all name) own (Front act) is)
      by (Some total) = views_same

  views_saved : (name : List ℕ) (found : Option OpenView) (gave : Given) → named_view session.views name ≡ found →
      P session.opened (save_outcome session.views found gave).views
  views_saved name None gave is = views_same
  views_saved name (Some own) given.Done is =
      steps session.opened session.views (own_step own (event_step own.document Saved)) (base_same session)
      (events_own session (encode_utf8_all name) own Saved is)
  views_saved name (Some own) given.Nothing is = views_same
  views_saved name (Some own) (given.Found text) is = views_same
  views_saved name (Some own) given.NotText is = views_same
  views_saved name (Some own) given.Failed is = views_same

  views_opened : (path : Option (List ℕ)) (gave : Given) →
      P (opened_after session.opened (NewView path) gave) (open_outcome session.terms session.ended session.config session.opened session.views path gave).views
  views_opened None gave = views_still (session.opened + 1) _ (base_next session [])
  views_opened (Some path) (given.Found text) = views_still (session.opened + 1) _ (base_next session text)
  views_opened (Some path) given.NotText = views_same
  views_opened (Some path) given.Nothing = views_same
  views_opened (Some path) given.Failed = views_same
  views_opened (Some path) given.Done = views_same

  views_closed : (found : Option OpenView) → P session.opened (close_outcome session.views found).views
  views_closed None = views_same
  views_closed (Some own) = views_still session.opened (without own.id session.views) (base_without session own.id)

  pub by_views : (act : Act) (gave : Given) → P (opened_after session.opened act gave) (outcome session act gave).views
  by_views (Edit name act) gave = views_edited name (named_view session.views name) act refl
  by_views (CloseView name) gave = views_closed (named_view session.views name)
  by_views (Save name path) gave = views_saved name (named_view session.views name) gave refl
  by_views Closing gave = leaves
  by_views (NewView path) gave = views_opened path gave
  by_views (Configure changes) gave =
      let next = config_with session.config changes in
      steps session.opened session.views (config_step next) (base_same session) (events_config session next)
  by_views (Bad fault) gave = views_same
  by_views Nothing gave = views_same
  by_views act gave = views_same
