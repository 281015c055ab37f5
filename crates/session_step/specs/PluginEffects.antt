-- What an act of a plugin comes to in memory.
use Rattle.std.specs.Prelude.{◌≡◌, ◌<◌, List, length, map, slice_set, Option, Some, None, ⊤}
use Rattle.std.specs.Arc.{arc_value}
use Rattle.std.specs.List.{AllByRecursion}
use Rattle.plain_edits.specs.declared.style.Style.{Style}
use Rattle.entry_lines.specs.Answer.{reply_of}
use Rattle.entry_lines.specs.Notices.{told_of}
use Rattle.entry_lines.specs.PluginAnswer.{Verdict, verdict_of}
use Rattle.doc_session.specs.Step.{IsEventFor}
use Rattle.doc_session.specs.declared.event.Event.{Event}
use Rattle.style_numbers.specs.InMemory.{table_after}
use Rattle.session_step.specs.declared.opened.Opened.{Opened}
use Rattle.session_step.specs.Views.{Stands}
use Rattle.session_step.specs.PluginStep.{PluginOutcome}
use Rattle.session_step.specs.declared.acted.Acted.{Acted}
use Rattle.session_step.specs.declared.acted.Acted.TheVariants.{Refused, Taken}
use Rattle.session_step.specs.declared.acted.PluginEffects.{PluginEffects}
use Rattle.session_step.specs.declared.next.NextViews.{NextViews}
use Rattle.session_step.specs.declared.next.NextViews.TheVariants.{All, One, Same}

-- the event may come to each document
abbrev pub EventMayCome : Event → List Opened → Type 0
EventMayCome event held = AllByRecursion (λ (kept : Opened). IsEventFor (length (arc_value kept.doc).text.sessions) event) held

-- the views once these became so
abbrev pub views_with : List Opened → NextViews → List Opened
views_with held Same = held
views_with held (One at opened) = slice_set held at opened
views_with held (All next) = next

-- the view that becomes another is there
abbrev pub HasPlace : List Opened → NextViews → Type 0
HasPlace held Same = ⊤
HasPlace held (One at opened) = at < length held
HasPlace held (All next) = ⊤

-- what an act came to that is taken
pub record IsPluginOutcome (held : List Opened) (outcome : PluginOutcome) (effects : PluginEffects) : Type 0 where
  pub verdict : verdict_of effects.reply ≡ outcome.verdict
  pub reply : reply_of effects.front.reply ≡ outcome.reply
  pub styles : effects.front.styles ≡ outcome.styles
  pub updates : effects.front.updates ≡ outcome.updates
  pub scroll : effects.front.scroll ≡ None
  pub place : HasPlace held effects.next
  pub stands : Stands (views_with held effects.next) outcome.views
  pub news : map told_of effects.news ≡ outcome.news

-- WHAT AN ACT CAME TO: it is refused as that says, or taken with this outcome
abbrev pub IsActed : List Opened → Option Verdict → PluginOutcome → Acted → Type 0
IsActed held refusal outcome (Refused reply) = refusal ≡ Some (verdict_of reply)
IsActed held refusal outcome (Taken effects) = (refusal ≡ None) × IsPluginOutcome held outcome effects

-- the table that was made, if one was, where the act is taken
abbrev pub HasGrown : Option (List Style) → Acted → Type 0
HasGrown grown (Refused reply) = ⊤
HasGrown grown (Taken effects) = effects.grown ≡ grown

-- the table after the act is this one, where it is taken
abbrev pub HasTable : List Style → List Style → Acted → Type 0
HasTable table after (Refused reply) = ⊤
HasTable table after (Taken effects) = table_after table effects.grown ≡ after
