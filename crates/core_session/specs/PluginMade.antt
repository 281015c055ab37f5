-- What a command of a plugin comes to in memory, with its lines.
use Rattle.std.specs.Prelude.{◌≡◌, ℕ, List, map, Option, Some, None, unwrap_or, ⊤}
use Rattle.std.specs.Str.{encode_utf8_all}
use Rattle.plain_edits.specs.declared.style.Style.{Style}
use Rattle.xi_plain.specs.declared.command.Command.{Command}
use Rattle.xi_plain.specs.declared.command.Id.{Id}
use Rattle.entry_lines.specs.Notices.{AreNoticeTexts, told_of}
use Rattle.entry_lines.specs.Piece.{AreLinesOf, UpdatesReadBack, news_messages}
use Rattle.entry_lines.specs.PluginAnswer.{IsAnswerText, Verdict, plugin_answer, verdict_of}
use Rattle.style_numbers.specs.InMemory.{table_after}
use Rattle.session_step.specs.declared.opened.Opened.{Opened}
use Rattle.session_step.specs.PluginStep.{PluginOutcome, plugin_messages, plugin_outcome, plugin_refusal, styles_after}
use Rattle.session_step.specs.Session.{OpenView, ended_after}
use Rattle.session_step.specs.Views.{Stands}
use Rattle.session_step.specs.PluginEffects.{HasPlace, views_with}
use Rattle.session_step.specs.declared.acted.PluginEffects.{PluginEffects}
use Rattle.core_session.specs.declared.plugin_made.PluginLines.{PluginLines}
use Rattle.core_session.specs.declared.plugin_made.PluginMade.{PluginMade}
use Rattle.core_session.specs.declared.plugin_made.PluginMade.TheVariants.{Refused, Taken}
use Rattle.core_session.specs.declared.plugin_made.PluginPrepared.{PluginPrepared}

-- the list after what was made of it, if anything was: it is longer then, and else as before
abbrev pub IsEndedNext : List ℕ → List ℕ → Option (List ℕ) → Type 0
IsEndedNext before after gone = unwrap_or gone before ≡ after

-- the lines are those of a line with this id that had these effects: its answer, its piece, whose updates read back, and what plugins are told
pub record AreLinesBy (id : Id) (effects : PluginEffects) (lines : PluginLines) : Type 0 where
  pub answer : IsAnswerText (plugin_answer id (verdict_of effects.reply)) (encode_utf8_all lines.answer)
  pub piece : AreLinesOf (news_messages id effects.front) (encode_utf8_all lines.piece)
  pub reads_back : UpdatesReadBack effects.front.updates
  pub told : AreNoticeTexts (map told_of effects.news) lines.told

-- what a command comes to that is taken and has this outcome, where the session has these styles before it, and these plugins' sessions have
-- ended: its answer, the lines of its piece, whose updates read back, those that tell plugins of it, and what it makes of the session
pub record IsPluginPrepared (held : List Opened) (styles : List Style) (ended : List ℕ) (caller : ℕ) (command : Command) (outcome : PluginOutcome)
    (made : PluginPrepared) : Type 0 where
  pub command_is : made.command ≡ command
  pub answer : IsAnswerText (plugin_answer command.id outcome.verdict) (encode_utf8_all made.answer)
  pub lines : AreLinesOf (plugin_messages command.id outcome) (encode_utf8_all made.piece)
  pub reads_back : UpdatesReadBack outcome.updates
  pub told : AreNoticeTexts outcome.news made.told
  pub place : HasPlace held made.next
  pub stands : Stands (views_with held made.next) outcome.views
  pub table : table_after styles made.grown ≡ styles_after styles command.act
  pub gone : IsEndedNext ended (ended_after ended caller command.act) made.gone

-- a line with this id is refused, and that is the line which answers it
pub record IsRefusal (id : Id) (refusal : Option Verdict) (line : List ℕ) : Type 0 where
  pub verdict : Verdict
  pub refused : refusal ≡ Some verdict
  pub answer : IsAnswerText (plugin_answer id verdict) (encode_utf8_all line)

-- WHAT A COMMAND OF A PLUGIN COMES TO: it is refused as the session says, or taken with its outcome
abbrev pub IsPluginMade : List Opened → List OpenView → List Style → List ℕ → ℕ → Command → PluginMade → Type 0
IsPluginMade held views styles ended caller command (Refused line) = IsRefusal command.id (plugin_refusal views styles caller command.act) line
IsPluginMade held views styles ended caller command (Taken made) =
    (plugin_refusal views styles caller command.act ≡ None) ×
    IsPluginPrepared held styles ended caller command (plugin_outcome views styles caller command.act) made

-- what is taken is this command
abbrev pub HasCommand : Command → PluginMade → Type 0
HasCommand command (Refused line) = ⊤
HasCommand command (Taken made) = made.command ≡ command
