-- What the acts of the front end keep of each document: what a loaded one has, and events of the front end keep.
use Rattle.std.proofs.Common.{◌≡◌, ℕ, Bool, true, false, List, [], ◌∷◌, ◌++◌, Option, Some, None, refl}
use Rattle.std.specs.Prelude.{if◌then◌else◌}
use Rattle.std.specs.List.{AllByRecursion}
use Rattle.std.specs.Str.{bytes_eq, encode_utf8_all}
use Rattle.xi_plain.specs.declared.command.EditAct.{EditAct}
use Rattle.xi_plain.specs.declared.command.Act.{Act}
use Rattle.xi_plain.specs.declared.command.Act.TheVariants.{Configure, NewView, CloseView, Save, Edit, Closing}
use Rattle.xi_plain.specs.declared.config.Config.{Config}
use Rattle.doc_session.specs.declared.event.Event.{Event}
use Rattle.doc_session.specs.declared.event.Event.TheVariants.{Config as Configured, Front, Other, Saved}
use Rattle.doc_session.specs.Document.{Document}
use Rattle.doc_session.specs.Step.{EventStep, event_step, refusal_at}
use Rattle.session_step.specs.declared.given.Given.{Given}
use Rattle.session_step.specs.declared.given.Given.TheVariants as given
use Rattle.session_step.specs.Session.{OpenView, Session, close_outcome, config_after, config_step, config_with, edit_came, edit_outcome, named_view, next_view, open_outcome, opened_document, other_step, outcome, own_step, save_outcome, spent_total, stepped, without}
use Rattle.session_step.proofs.ForCallers.{all_found}
use Rattle.core_session.proofs.ForCallers.{all_without}

-- an event of the front end that tells no configuration
abbrev pub is_of_front : Event → Bool
is_of_front (Front act) = true
is_of_front Saved = true
is_of_front Other = true
is_of_front event = false

module _ (P : Config → Document → Type 0)
    (keeps : (config : Config) (document : Document) (event : Event) → is_of_front event ≡ true → P config document → P config (event_step document event).document)
    (changes : (config next : Config) (document : Document) → P config document → P next (event_step document (Configured next)).document) where
  abbrev pub AllHave : Config → List OpenView → Type 0
  AllHave config views = AllByRecursion (λ (view : OpenView). P config view.document) views

  all_steps : (config next : Config) (steps : OpenView → EventStep) (views : List OpenView) →
      ((view : OpenView) → P config view.document → P next (steps view).document) → AllHave config views → AllHave next (stepped steps views)
  all_steps config next steps [] each all = tt
  all_steps config next steps (view ∷ views) each all = (each view all.0, all_steps config next steps views each all.1)

  all_others : (config : Config) (views : List OpenView) → AllHave config views → AllHave config (stepped other_step views)
  all_others config views all = all_steps config config other_step views (λ view here. keeps config view.document Other refl here) all

  all_own : (config : Config) (own : OpenView) (event : Event) (views : List OpenView) → is_of_front event ≡ true → P config own.document →
      AllHave config views → AllHave config (stepped (own_step own (event_step own.document event)) views)
  all_own config own event views is there all =
      all_steps config config (own_step own (event_step own.document event)) views (λ view at. by view at (bytes_eq own.id view.id)) all
    where
      by : (view : OpenView) → P config view.document → (here : Bool) →
          P config (if here then event_step own.document event else other_step view).document
      by view at true = keeps config own.document event is there
      by view at false = keeps config view.document Other refl at

  all_came : (config : Config) (views : List OpenView) (own : OpenView) (total : Option ℕ) (act : EditAct) → P config own.document →
      AllHave config views → AllHave config (edit_came views own total (event_step own.document (Front act))).views
  all_came config views own (Some total) act there all = all_others config views all
  all_came config views own None act there all = all_own config own (Front act) views refl there all

  all_edit : (config : Config) (views : List OpenView) (name : List ℕ) (found : Option OpenView) (act : EditAct) → named_view views name ≡ found →
      AllHave config views → AllHave config (edit_outcome views found act).views
  all_edit config views name None act is all = all_others config views all
  all_edit config views name (Some own) act is all =
      all_came config views own (spent_total (refusal_at own.document (Front act))) act
      (all_found (P config) views (encode_utf8_all name) own is all) all

  all_save : (config : Config) (views : List OpenView) (name : List ℕ) (found : Option OpenView) (gave : Given) → named_view views name ≡ found →
      AllHave config views → AllHave config (save_outcome views found gave).views
  all_save config views name None gave is all = all_others config views all
  all_save config views name (Some own) given.Done is all =
      all_own config own Saved views refl (all_found (P config) views (encode_utf8_all name) own is all) all
  all_save config views name (Some own) given.Nothing is all = all_others config views all
  all_save config views name (Some own) (given.Found text) is all = all_others config views all
  all_save config views name (Some own) given.NotText is all = all_others config views all
  all_save config views name (Some own) given.Failed is all = all_others config views all

  all_push : (config : Config) (views : List OpenView) (next : OpenView) → P config next.document → AllHave config views → AllHave config (views ++ next ∷ [])
  all_push config [] next here all = (here, tt)
  all_push config (view ∷ views) next here all = (all.0, all_push config views next here all.1)

  all_close : (config : Config) (views : List OpenView) (found : Option OpenView) → AllHave config views → AllHave config (close_outcome views found).views
  all_close config views None all = all_others config views all
  all_close config views (Some own) all =
      all_others config (without own.id views) (all_without (λ (view : OpenView). P config view.document) own.id views all)

  module _ (session : Session) (loaded : (text : List ℕ) → P session.config (opened_document session.terms session.ended session.config text)) where
    all_on : (text : List ℕ) → AllHave session.config session.views →
        AllHave session.config (stepped other_step (session.views ++ next_view session.terms session.ended session.config session.opened text ∷ []))
    all_on text all =
        let next = next_view session.terms session.ended session.config session.opened text in
        all_others session.config (session.views ++ next ∷ []) (all_push session.config session.views next (loaded text) all)

    all_open : (path : Option (List ℕ)) (gave : Given) → AllHave session.config session.views →
        AllHave session.config (open_outcome session.terms session.ended session.config session.opened session.views path gave).views
    all_open None gave all = all_on [] all
    all_open (Some path) (given.Found text) all = all_on text all
    all_open (Some path) given.NotText all = all_others session.config session.views all
    all_open (Some path) given.Nothing all = all_others session.config session.views all
    all_open (Some path) given.Failed all = all_others session.config session.views all
    all_open (Some path) given.Done all = all_others session.config session.views all

    -- WHAT HOLDS OF ALL DOCUMENTS holds after an act
    pub all_outcome : (act : Act) (gave : Given) → AllHave session.config session.views →
        AllHave (config_after session.config act) (outcome session act gave).views
    all_outcome (Edit name act) gave all = all_edit session.config session.views name (named_view session.views name) act refl all
    all_outcome (CloseView name) gave all = all_close session.config session.views (named_view session.views name) all
    all_outcome (Save name path) gave all = all_save session.config session.views name (named_view session.views name) gave refl all
    all_outcome Closing gave all = all
    all_outcome (NewView path) gave all = all_open path gave all
    all_outcome (Configure changed) gave all =
        let next = config_with session.config changed in
        all_steps session.config next (config_step next) session.views (λ view here. changes session.config next view.document here) all
    all_outcome act gave all = all_others session.config session.views all
