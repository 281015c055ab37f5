-- A session takes lines, and its plugins ask it: what its relation of a call says of that.
use Rattle.std.proofs.Common.{◌≡◌, ℕ, ◌<◌, ◌≤◌, Bool, true, false, List, [], ◌∷◌, map, drop, get_or, refl, ap, sym, ◌∙◌}
use Rattle.std.proofs.Math.Bool.{Bool-set}
use Rattle.std.proofs.Math.Logic.{∥∥₁_elim}
use Rattle.std.specs.Prelude.{◌==◌, ◌||◌, if◌then◌else◌}
use Rattle.std.specs.List.{AllByRecursion}
use Rattle.xi_plain.specs.declared.command.Act.{Act}
use Rattle.xi_plain.specs.declared.command.Act.TheVariants as act
use Rattle.xi_plain.specs.declared.entry.Entry.{Entry}
use Rattle.xi_plain.specs.declared.ask.Ask.{Ask}
use Rattle.xi_plain.specs.declared.ask.Ask.TheVariants.{CloseDown, FrontLine, PluginEnd, PluginLine}
use Rattle.xi_plain.specs.declared.reply.Reply.{Reply}
use Rattle.xi_plain.specs.declared.reply.Reply.TheVariants as reply
use Rattle.xi_plain.specs.Journal.{closes, commands, front_entries, is_closing}
use Rattle.xi_plain.specs.Reply.{has_entry}
use Rattle.front_wire.specs.Front.{command_of}
use Rattle.session_step.specs.declared.terms.Terms.{Terms}
use Rattle.session_step.specs.Accepted.{AcceptsBy, AreAccepted, AreAcceptedFrom, is_of_plugin}
use Rattle.session_step.specs.Session.{Session, first_session, step}
use Rattle.core_session.specs.Kept.{has_closing, is_over}
use Rattle.core_session.specs.Serves.{FitsCaller, Serves}
use Rattle.core_session.proofs.ForCallers.{IsOfLine-command_of}
use Rattle.plugin_session.specs.Call.{IsPluginAsk}
use Rattle.plugin_crew.specs.declared.took.Took.TheVariants as took
use Rattle.plugin_crew.specs.Taker.{TellsFaults, took_of}
use Rattle.xi_top.specs.Reads.{AddsLine, ReadsLines}
use Rattle.xi_top.proofs.EnterLemmas.{same_last}

-- it tells faults
pub tells_faults : (terms : Terms) → TellsFaults (λ before caller ask given after. Serves terms before caller ask given after)
tells_faults terms before caller ask (reply.Taken text) after served = λ entry is.
    ap (λ e. e.sent) (same_last before entry served.entry.entry (sym is ∙ served.entry.added)) ∙ served.entry.sent_is
tells_faults terms before caller ask reply.SinkFault after served = λ entry is.
    ap (λ e. e.sent) (same_last before entry served.entry.entry (sym is ∙ served.entry.added)) ∙ served.entry.sent_is
tells_faults terms before caller ask (reply.Refused text) after served = tt
tells_faults terms before caller ask reply.Closed after served = tt
tells_faults terms before caller ask reply.NoMemory after served = tt

-- it reads lines
line_read : (terms : Terms) (line : List ℕ) (before : List Entry) (given : Reply) (after : List Entry) → Serves terms before 0 (FrontLine line) given after →
    has_entry given ≡ true → AddsLine before line after
line_read terms line before (reply.Taken text) after served made = record {
  entry = served.entry.entry;
  added = served.entry.added;
  own = served.entry.caller_is;
  asks = served.entry.command_is;
}
line_read terms line before reply.SinkFault after served made = record {
  entry = served.entry.entry;
  added = served.entry.added;
  own = served.entry.caller_is;
  asks = served.entry.command_is;
}
line_read terms line before (reply.Refused text) after served made = absurd cc
line_read terms line before reply.Closed after served made = absurd cc
line_read terms line before reply.NoMemory after served made = absurd cc

line_closed : (terms : Terms) (line : List ℕ) (before : List Entry) (given : Reply) (after : List Entry) → Serves terms before 0 (FrontLine line) given after →
    took_of given ≡ took.Closed → (after ≡ before) × (is_over before ≡ true)
line_closed terms line before (reply.Taken text) after served is = absurd cc
line_closed terms line before reply.SinkFault after served is = absurd cc
line_closed terms line before (reply.Refused text) after served is = absurd (served.refused text refl)
line_closed terms line before reply.Closed after served is = (served.entry, served.closed.0 refl)
line_closed terms line before reply.NoMemory after served is = absurd cc

pub reads_lines : (terms : Terms) → ReadsLines (λ before caller ask given after. Serves terms before caller ask given after)
reads_lines terms = record { entry = line_read terms; closed = line_closed terms }

-- each plugin may ask what plugins ask
pub plugin_fits : (plugins caller : ℕ) (ask : Ask) → 0 < caller → caller ≤ plugins → IsPluginAsk ask → FitsCaller plugins caller ask
plugin_fits plugins caller (PluginLine line) from to asks = (from, to)
plugin_fits plugins caller PluginEnd from to asks = (from, to)
plugin_fits plugins caller (FrontLine line) from to asks = absurd asks
plugin_fits plugins caller CloseDown from to asks = absurd asks

-- ---- what does not close the journal

stays_open : (asked : Act) → is_of_plugin asked ≡ true → closes asked ≡ false
stays_open (act.PluginEdit view rev delta priority after_cursor author named) is = refl
stays_open (act.GetData view rev start max) is = refl
stays_open (act.UpdateSpans view rev start len spans) is = refl
stays_open (act.LineCount view) is = refl
stays_open (act.Alert msg) is = refl
stays_open (act.Ack view rev) is = refl
stays_open act.Ended is = refl
stays_open (act.Bad fault) is = refl
stays_open act.Nothing is = refl
stays_open (act.Configure changes) is = refl
stays_open (act.NewView path) is = refl
stays_open (act.CloseView view) is = refl
stays_open (act.Save view path) is = refl
stays_open (act.Edit view edit) is = refl
stays_open act.Closing is = absurd cc

neither : (a b : Bool) → a ≡ false → b ≡ false → (a || b) ≡ false
neither true b first second = absurd cc
neither false b first second = second

open_with : (own : Bool) (session : Session) (entry : Entry) (fronts : List Entry) → AcceptsBy own session entry →
    AllByRecursion (λ e. is_closing e ≡ false) (if own then entry ∷ fronts else fronts) →
    (is_closing entry ≡ false) × AllByRecursion (λ e. is_closing e ≡ false) fronts
open_with true session entry fronts accepts each = each
open_with false session entry fronts accepts each = (stays_open entry.command.act accepts.asks, each)

open_from : (session : Session) (journal : List Entry) → AreAcceptedFrom session journal → AllByRecursion (λ e. is_closing e ≡ false) (front_entries journal) →
    has_closing journal ≡ false
open_from session [] accepted each = refl
open_from session (entry ∷ entries) accepted each =
    let open_ = open_with (entry.caller == 0) session entry (front_entries entries) accepted.0 each in
    neither (is_closing entry) (has_closing entries) open_.0 (open_from (step session entry) entries accepted.1 open_.1)

-- a journal whose entries of the front end do not close it, and whose others are accepted, is not closed
pub not_closed : (terms : Terms) (journal : List Entry) → ∥ AreAccepted terms journal ∥₁ → AllByRecursion (λ e. is_closing e ≡ false) (front_entries journal) →
    has_closing journal ≡ false
not_closed terms journal accepted each =
    ∥∥₁_elim accepted (Bool-set _ _) (λ are. open_from (first_session terms) journal are each)

-- what lines ask does not
pub lines_open : (entries : List Entry) (lines : List (List ℕ)) → commands entries ≡ map command_of lines → AllByRecursion (λ e. is_closing e ≡ false) entries
lines_open [] lines is = tt
lines_open (entry ∷ entries) [] is = absurd cc
lines_open (entry ∷ entries) (line ∷ lines) is =
    let first : entry.command ≡ command_of line = ap (λ commands. get_or commands 0 entry.command) is in
    (ap (λ command. closes command.act) first ∙ IsOfLine-command_of line, lines_open entries lines (ap (drop 1) is))
