-- WHAT ONE CALL OF A SESSION DOES to its journal, and what it is answered: the one place to read it, for a caller at a room and for one who has
-- the session alone.
use Rattle.std.specs.Prelude.{◌≡◌, ◌≢◌, ℕ, ◌≤◌, Bool, true, false, List, [], ◌∷◌, ◌++◌, Option, Some, None, ◌↔◌}
use Rattle.std.specs.Bool.{MatchBool}
use Rattle.std.specs.Str.{encode_utf8_all}
use Rattle.xi_plain.specs.declared.ask.Ask.{Ask}
use Rattle.xi_plain.specs.declared.ask.Ask.TheVariants.{CloseDown, FrontLine, PluginEnd, PluginLine}
use Rattle.xi_plain.specs.declared.command.Act.TheVariants.{Closing, Ended}
use Rattle.xi_plain.specs.declared.command.Command.{Command}
use Rattle.xi_plain.specs.declared.command.Id.{Id}
use Rattle.xi_plain.specs.declared.command.Id.TheVariants.{NoId}
use Rattle.xi_plain.specs.declared.entry.Entry.{Entry}
use Rattle.xi_plain.specs.declared.reply.Reply.{Reply}
use Rattle.xi_plain.specs.declared.reply.Reply.TheVariants.{Closed, NoMemory, Refused, SinkFault, Taken}
use Rattle.xi_plain.specs.Journal.{IsLegal}
use Rattle.xi_plain.specs.Reply.{has_entry}
use Rattle.front_wire.specs.Front.{command_of}
use Rattle.plugin_wire.specs.Asked.{ask_of}
use Rattle.entry_lines.specs.PluginAnswer.{IsAnswerText, Verdict, plugin_answer}
use Rattle.session_step.specs.declared.terms.Terms.{Terms}
use Rattle.session_step.specs.PluginStep.{PluginOutcome, plugin_outcome, plugin_refusal}
use Rattle.session_step.specs.Session.{Session, first_session, session_of, written}
use Rattle.session_step.specs.Accepted.{AreAccepted}
use Rattle.core_session.specs.Kept.{has_closing, is_over, sent_front}
use Rattle.core_session.specs.Shelves.{AreSavesAsked}
use Rattle.core_session.specs.Shows.{Shows}

-- ---- what is asked

-- WHICH ASKS FIT a caller, where there are so many plugins: caller 0 is the front end, and each plugin has its number from 1
abbrev pub FitsCaller : ℕ → ℕ → Ask → Type 0
FitsCaller plugins caller (FrontLine line) = caller ≡ 0
FitsCaller plugins caller CloseDown = caller ≡ 0
FitsCaller plugins caller (PluginLine line) = (1 ≤ caller) × (caller ≤ plugins)
FitsCaller plugins caller PluginEnd = (1 ≤ caller) × (caller ≤ plugins)

-- THE COMMAND of an ask: what its line says, the end of a plugin's session, or the closing
abbrev pub command_asked : Ask → Command
command_asked (FrontLine line) = command_of line
command_asked (PluginLine line) = ask_of line
command_asked PluginEnd = record { id = NoId; act = Ended }
command_asked CloseDown = record { id = NoId; act = Closing }

-- whether an ask comes too late: a closing entry stands, or for any ask but the closing an entry that was not sent
abbrev pub is_too_late : Ask → List Entry → Bool
is_too_late (FrontLine line) journal = is_over journal
is_too_late (PluginLine line) journal = is_over journal
is_too_late PluginEnd journal = is_over journal
is_too_late CloseDown journal = has_closing journal

-- ---- what it is answered

-- why the session that a journal defines refuses a command of this plugin, if it does; what it comes to where it does not, and the verdict on it
abbrev pub refusal_in : Session → ℕ → Command → Option Verdict
refusal_in session caller command = plugin_refusal session.views session.styles caller command.act

abbrev pub outcome_in : Session → ℕ → Command → PluginOutcome
outcome_in session caller command = plugin_outcome session.views session.styles caller command.act

abbrev pub verdict_in : Session → ℕ → Command → Verdict
verdict_in session caller command = (outcome_in session caller command).verdict

-- the same of an ask of this caller: lines of plugins alone are refused
abbrev pub ask_refusal : Terms → List Entry → ℕ → Ask → Option Verdict
ask_refusal terms journal caller (FrontLine line) = None
ask_refusal terms journal caller (PluginLine line) = refusal_in (session_of terms journal) caller (ask_of line)
ask_refusal terms journal caller PluginEnd = None
ask_refusal terms journal caller CloseDown = None

-- the text is the line of a verdict, and empty where that is told nothing
abbrev pub IsVerdictText : Id → Verdict → List ℕ → Type 0
IsVerdictText id verdict text = ∥ IsAnswerText (plugin_answer id verdict) (encode_utf8_all text) ∥₁

-- the text is the line of the refusal, where there is one
abbrev pub IsRefusedBy : Option Verdict → Id → List ℕ → Type 0
IsRefusedBy None id text = ⊥
IsRefusedBy (Some verdict) id text = IsVerdictText id verdict text

-- THE ANSWER to an ask that is an entry: to a line of a plugin what the session before it gives, and to any other nothing
abbrev pub IsAnswerTo : Terms → List Entry → ℕ → Ask → List ℕ → Type 0
IsAnswerTo terms journal caller (FrontLine line) text = text ≡ []
IsAnswerTo terms journal caller (PluginLine line) text =
    IsVerdictText (ask_of line).id (verdict_in (session_of terms journal) caller (ask_of line)) text
IsAnswerTo terms journal caller PluginEnd text = text ≡ []
IsAnswerTo terms journal caller CloseDown text = text ≡ []

-- ---- one call

-- whether the reply says that an entry was sent
abbrev pub is_taken : Reply → Bool
is_taken (Taken text) = true
is_taken (Refused text) = false
is_taken SinkFault = false
is_taken Closed = false
is_taken NoMemory = false

-- one entry is added: it is the command, of this caller, and was sent or not
pub record AddsCommand (before : List Entry) (caller : ℕ) (command : Command) (sent : Bool) (after : List Entry) : Type 0 where
  pub entry : Entry
  pub added : after ≡ before ++ entry ∷ []
  pub caller_is : entry.caller ≡ caller
  pub command_is : entry.command ≡ command
  pub sent_is : entry.sent ≡ sent

-- WHAT ONE CALL DOES, where the journal was the first before it and is the second after it
pub record Serves (terms : Terms) (before : List Entry) (caller : ℕ) (ask : Ask) (reply : Reply) (after : List Entry) : Type 0 where
  -- it adds one entry exactly where the reply is `Taken` or `SinkFault`: the command of the ask, sent in the one case and not in the other
  pub entry : MatchBool (has_entry reply) (AddsCommand before caller (command_asked ask) (is_taken reply) after) (after ≡ before)
  -- what is refused is no entry
  pub accepted : has_entry reply ≡ true → ask_refusal terms before caller ask ≡ None
  -- the text of `Refused` is the line of the refusal, which is that of the journal before, as the text of `Taken` is the answer
  pub refused : (text : List ℕ) → reply ≡ Refused text → IsRefusedBy (ask_refusal terms before caller ask) (command_asked ask).id text
  pub answer : (text : List ℕ) → reply ≡ Taken text → IsAnswerTo terms before caller ask text
  -- `Closed` comes exactly where the ask comes too late
  pub closed : (reply ≡ Closed) ↔ (is_too_late ask before ≡ true)
  -- the closing never lacks memory, and is always sent
  pub memory : reply ≡ NoMemory → ask ≢ CloseDown
  pub sends : reply ≡ SinkFault → ask ≢ CloseDown

-- ---- which journals there are

-- THE JOURNALS OF A SESSION with these terms: each entry may stand where it does, and is one that the session before it accepts; each saving
-- asked the shelf exactly where its view was open; and what the entries write shows them, those before the first that was not sent
pub record IsSessionJournal (terms : Terms) (journal : List Entry) : Type 0 where
  pub legal : IsLegal terms.plugins journal
  pub accepted : AreAccepted terms journal
  pub saves_asked : AreSavesAsked terms journal
  pub shows : Shows terms (sent_front journal) (written (first_session terms) (sent_front journal))
