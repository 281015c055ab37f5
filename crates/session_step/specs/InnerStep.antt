-- What private functions say: what an event makes of one document, and an act of all of them.
use Rattle.doc_session.specs.Document.{Document}
use Rattle.doc_session.specs.InMemory.{Doc}
use Rattle.doc_session.specs.Stands.{DocStandsFor}
use Rattle.doc_session.specs.Step.{AreEffectsOf, EventStep, event_step, refusal_at}
use Rattle.doc_session.specs.declared.event.Effects.{Effects}
use Rattle.doc_session.specs.declared.event.Event.TheVariants.{Config as Configured, Ended, Other}
use Rattle.doc_session.specs.declared.event.Event.{Event}
use Rattle.doc_text.specs.Fault.{DocRefuses}
use Rattle.doc_text.specs.declared.fault.DocFault.TheVariants as Fault
use Rattle.doc_text.specs.declared.fault.DocFault.{DocFault}
use Rattle.entry_lines.specs.Answer.{reply_of}
use Rattle.entry_lines.specs.Notices.{told_of}
use Rattle.plugin_wire.specs.Told.{Told}
use Rattle.plain_edits.specs.History.{head}
use Rattle.session_step.specs.Session.{OpenView, Outcome, stepped, told}
use Rattle.session_step.specs.Views.{HaveSessions, Stands}
use Rattle.session_step.specs.declared.act.ActEffects.{ActEffects}
use Rattle.session_step.specs.declared.opened.Opened.{Opened}
use Rattle.session_step.specs.declared.stepped.Stepped.{Stepped}
use Rattle.session_step.specs.declared.stepped.ToEach.TheVariants as to
use Rattle.session_step.specs.declared.stepped.ToEach.{ToEach}
use Rattle.std.specs.Prelude.{◌≡◌, ◌<◌, List, ◌++◌, map, ⊤, None, Result, IfOk, IfErr}

-- what an event makes of a document: the one that its step gives and what is told of it, or the event is refused
pub record IsMade (old : Doc) (event : Event) (result : Result (Doc × Effects) DocFault) : Type 0 where
  pub served : (plain : Document) → DocStandsFor old plain → IfOk result (λ made. DocStandsFor made.0 (event_step plain event).document)
  pub effects : (plain : Document) → DocStandsFor old plain → IfOk result (λ made. AreEffectsOf (event_step plain event) made.1)
  pub accepted : (plain : Document) → DocStandsFor old plain → IfOk result (λ _. refusal_at plain event ≡ None)
  pub refused : (plain : Document) → DocStandsFor old plain → IfErr result (DocRefuses (refusal_at plain event))

-- what each document is told, and the step that each view takes then
abbrev pub each_event : ToEach → Event
each_event to.Other = Other
each_event (to.Config config) = Configured config
each_event (to.Ended caller) = Ended caller

abbrev pub each_step : ToEach → OpenView → EventStep
each_step event view = event_step view.document (each_event event)

-- each of these may be told so: a configuration has a tab of some columns, and a plugin whose session ends has one in each
abbrev pub MayTell : ToEach → List Opened → Type 0
MayTell to.Other held = ⊤
MayTell (to.Config config) held = 0 < config.tab
MayTell (to.Ended caller) held = HaveSessions caller held

-- behind those that took their step these do, and what they tell is told
abbrev pub TakesSteps : ToEach → Stepped → List Opened → Stepped → Type 0
TakesSteps event old held new = (front views : List OpenView) → Stands old.held front → Stands held views →
    Stands new.held (front ++ stepped (each_step event) views) × (new.updates ≡ old.updates ++ told (each_step event) views)

-- what came of an edit is that of this step
abbrev pub IsEdited : EventStep → Doc → Effects → Type 0
IsEdited step next effects = DocStandsFor next step.document × AreEffectsOf step effects

-- what came of an act in memory is the outcome, and these are its news
pub record IsOutcome (outcome : Outcome) (news : List Told) (effects : ActEffects) : Type 0 where
  pub reply : reply_of effects.reply ≡ outcome.reply
  pub updates : effects.updates ≡ outcome.updates
  pub scroll : effects.scroll ≡ outcome.scroll
  pub stands : Stands effects.held outcome.views
  pub told : map told_of effects.news ≡ news

-- a fault of the front end's own edit: its characters are spent, or memory is wanting
abbrev pub IsSpentOrLack : DocFault → Type 0
IsSpentOrLack (Fault.Unknown head) = ⊥
IsSpentOrLack (Fault.Collected floor) = ⊥
IsSpentOrLack (Fault.Misfit first) = ⊥
IsSpentOrLack (Fault.Spent total) = ⊤
IsSpentOrLack (Fault.BadParams member) = ⊥
IsSpentOrLack Fault.NoMemory = ⊤
