-- What private functions say: the steps of an event.
use Rattle.std.specs.Prelude.{◌≡◌, ℕ, ◌+◌, ◌≤◌, Result, IfOk}
use Rattle.doc_layout.specs.Told.{screen_of}
use Rattle.doc_view.specs.declared.told.Pristine.{Pristine}
use Rattle.doc_text.specs.InMemory.{is_pristine_in}
use Rattle.doc_text.specs.Stands.{IsTextOf}
use Rattle.doc_session.specs.declared.event.Effects.{Effects}
use Rattle.doc_session.specs.Document.{Document, layout_of}
use Rattle.doc_session.specs.InMemory.{Doc}
use Rattle.doc_session.specs.Stands.{AreRegionsOf, DocStandsFor, IsLastTold, IsOfHead}
use Rattle.doc_session.specs.Step.{AreEffectsOf, EventStep}

-- whether the text of a document was and is the one that was loaded or last saved, from one to the next
abbrev pub pristine_to : Doc → Doc → Pristine
pristine_to doc next = record { before = is_pristine_in doc.text; after = is_pristine_in next.text }

-- an event left the document in memory so, before the front end is told: it stands for the plain one but for the screen, which is the one of
-- the document before
pub record IsUntold (doc : Doc) (before plain : Document) : Type 0 where
  pub text : IsTextOf doc.text plain.text
  pub view : doc.view ≡ plain.view
  pub of_head : IsOfHead plain
  pub regions_are : AreRegionsOf plain.view.text plain.view.regions
  pub screen_stays : plain.screen ≡ before.screen
  pub shown : before.screen ≡ screen_of plain.view.shown (layout_of before)

-- the document in memory stands for the plain one, but that groups may be left that are to be collected
pub record IsUncollected (doc : Doc) (plain : Document) : Type 0 where
  pub text : IsTextOf doc.text plain.text
  pub view : doc.view ≡ plain.view
  pub of_head : IsOfHead plain
  pub regions_are : AreRegionsOf plain.view.text plain.view.regions
  pub screen : IsLastTold plain

-- what an event makes is what its step gives, before anything is collected: the document after it, and what those outside are told
pub record IsStepped (step : EventStep) (made : Doc × Effects) : Type 0 where
  pub stands : IsUncollected made.0 step.document
  pub effects : AreEffectsOf step made.1

-- WHAT AN EVENT MAKES of this document, if it is taken, is what its step gives, whatever plain document it stands for
abbrev pub IsStepOf : {E : Type 0} → Doc → (Document → EventStep) → Result (Doc × Effects) E → Type 0
IsStepOf doc step result = (plain : Document) → DocStandsFor doc plain → IfOk result (IsStepped (step plain))

-- WHAT AN EVENT COSTS: no more steps than this, whatever plain document this one stands for
abbrev pub IsCountedBy : Doc → (Document → ℕ) → ℕ → ℕ → Type 0
IsCountedBy doc ticks before after = (plain : Document) → DocStandsFor doc plain → after ≤ before + ticks plain
