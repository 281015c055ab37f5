-- WHICH ENTRIES FOLLOW on a tape: what a session that plays a journal again can enter.
use Rattle.std.specs.Prelude.{◌≡◌, ℕ, zero, suc, ◌≤◌, ◌&&◌, ◌⊎◌, not, Bool, true, false, if◌then◌else◌, List, [], ◌∷◌, drop, None, ⊤}
use Rattle.plain_text.specs.InputLines.{lines_of}
use Rattle.xi_plain.specs.declared.command.Command.{Command}
use Rattle.xi_plain.specs.declared.entry.Entry.{Entry}
use Rattle.xi_plain.specs.Journal.{closing_entry, is_closing, may_have_note}
use Rattle.json_rpc.specs.Line.{line_of}
use Rattle.front_wire.specs.Front.{command_of}
use Rattle.plugin_wire.specs.Asked.{ask_of}
use Rattle.plugin_side.specs.Asking.{IsAsk, command_data}
use Rattle.session_step.specs.declared.terms.Terms.{Terms}
use Rattle.session_step.specs.Session.{Session, first_session, is_front, step}
use Rattle.core_session.specs.Kept.{ending, with_sent}
use Rattle.core_session.specs.Serves.{refusal_in}
use Rattle.core_session.specs.Shelves.{asks_as}

-- A POINT of a replay: the session that the entries by then define, the lines of the tape that they left, and whether one of them closed it
pub record Point : Type 0 where
  pub session : Session
  pub lines : List (List ℕ)
  pub closed : Bool

-- the point before all entries
abbrev pub first_point : Terms → List ℕ → Point
first_point terms tape = record { session = first_session terms; lines = lines_of tape; closed = false }

-- the lines that an entry leaves: one of the front end uses up the next line, but the closing one
abbrev pub lines_left : Entry → List (List ℕ) → List (List ℕ)
lines_left entry lines = if is_front entry && not (is_closing entry) then drop 1 lines else lines

-- the point after an entry, and after entries
abbrev pub point_with : Point → Entry → Point
point_with point entry = record {
  session = step point.session entry;
  lines = lines_left entry point.lines;
  closed = is_closing entry;
}

abbrev pub point_after : Point → List Entry → Point
point_after point [] = point
point_after point (entry ∷ entries) = point_after (point_with point entry) entries

-- the next of these lines asks this
abbrev pub NextAsks : List (List ℕ) → Command → Type 0
NextAsks [] command = ⊥
NextAsks (line ∷ lines) command = command_of line ≡ command

-- the entry is the front end's, and its command is that of the next line
pub record IsNextLine (point : Point) (entry : Entry) : Type 0 where
  pub front : entry.caller ≡ 0
  pub asks : NextAsks point.lines entry.command

-- it is the closing entry, sent or not
abbrev pub IsTheClosing : Entry → Type 0
IsTheClosing entry = with_sent entry true ≡ closing_entry

-- its command is one that a plugin's line asks: the line that is written of it reads back as the same, and the session accepts it
pub record IsTaken (session : Session) (entry : Entry) : Type 0 where
  pub asks : IsAsk entry.command.act
  pub reads_back : ask_of (line_of (command_data entry.command)) ≡ entry.command
  pub accepted : refusal_in session entry.caller entry.command ≡ None

-- it is of one of so many plugins, and ends the plugin's session or is such a command
pub record IsByPlugin (plugins : ℕ) (point : Point) (entry : Entry) : Type 0 where
  pub from : 1 ≤ entry.caller
  pub to : entry.caller ≤ plugins
  pub asks : (entry.command ≡ ending) ⊎ IsTaken point.session entry

-- AN ENTRY FOLLOWS at a point, where there are so many plugins: nothing before it closed the journal; its note is of a kind that its command
-- can have, and a saving has one exactly where its view is unclosed; and it is what the tape's next line asks, the closing entry, or a plugin's
pub record FollowsAt (plugins : ℕ) (point : Point) (entry : Entry) : Type 0 where
  pub unclosed : point.closed ≡ false
  pub note : may_have_note entry.command.act entry.shelf ≡ true
  pub asked : asks_as point.session.views entry.command.act entry.shelf ≡ true
  pub asks : IsNextLine point entry ⊎ (IsTheClosing entry ⊎ IsByPlugin plugins point entry)

-- EACH OF THESE ENTRIES FOLLOWS
abbrev pub AllFollow : ℕ → Point → List Entry → Type 0
AllFollow plugins point [] = ⊤
AllFollow plugins point (entry ∷ entries) = FollowsAt plugins point entry × AllFollow plugins (point_with point entry) entries

-- THE FIRST ENTRY THAT DOES NOT FOLLOW has this index
abbrev pub FirstDiffers : ℕ → Point → List Entry → ℕ → Type 0
FirstDiffers plugins point [] index = ⊥
FirstDiffers plugins point (entry ∷ entries) zero = FollowsAt plugins point entry → ⊥
FirstDiffers plugins point (entry ∷ entries) (suc index) =
    FollowsAt plugins point entry × FirstDiffers plugins (point_with point entry) entries index
