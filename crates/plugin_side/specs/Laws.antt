-- The laws of a plugin's side of the wire, on data alone.
use Rattle.std.specs.Prelude.{◌≡◌, ◌↔◌, ◌⊎◌, ◌≤◌, ◌<◌, ◌^◌, ℕ, ℤ, List, codes, true, Some, None}
use Rattle.std.specs.Str.{all_scalars}
use Rattle.xi_plain.specs.declared.command.Id.{Id}
use Rattle.xi_plain.specs.declared.command.Act.TheVariants.{Bad}
use Rattle.xi_plain.specs.declared.command.Command.{Command}
use Rattle.xi_plain.specs.declared.command.Fault.{Fault}
use Rattle.serde_json.specs.Data.{Data, null, depth}
use Rattle.json_rpc.specs.Line.{line_of, IsLineOf}
use Rattle.json_rpc.specs.Request.{IsTextId}
use Rattle.json_rpc.specs.Response.{text_data, pair_data, reply_data, error_data, failed}
use Rattle.plugin_wire.specs.Told.{Told, whole_data}
use Rattle.plugin_wire.specs.Asked.{ask_of}
use Rattle.plugin_wire.specs.Laws.{IsNoticeOf}
use Rattle.plugin_side.specs.declared.heard.Answered.TheVariants.{Chunk, Edited, Lines, Null}
use Rattle.plugin_side.specs.declared.heard.Heard.{Heard}
use Rattle.plugin_side.specs.declared.heard.Heard.TheVariants as Hears
use Rattle.plugin_side.specs.Asking.{IsAsk, command_data}
use Rattle.plugin_side.specs.Range.{IsHeldCommand, IsTakenCommand}
use Rattle.plugin_side.specs.Heard.{with_room, result_heard, response_heard, heard_of, notice_heard, line_answer, heard_in}
use Rattle.std.specs.Prelude.{option_map}

-- ---- what is written is asked

-- the line is that of the command, and asks exactly the command
pub record IsAskLine (command : Command) (line : List ℕ) : Type 0 where
  pub written : IsLineOf (command_data command) line
  pub asks : ask_of line ≡ command

-- THE ROUND TRIP: whatever a plugin may ask, in numbers that the core takes, its line asks; and the line nests 6 deep at most
abbrev pub CommandsReadBack : Type 0
CommandsReadBack = (command : Command) → IsAsk command.act → IsHeldCommand command → IsTakenCommand command
    → IsAskLine command (line_of (command_data command)) × (depth (command_data command) ≤ 6)

-- what is asked is refused, or the line that is written of it asks it again
abbrev pub IsAskedAgain : Command → Type 0
IsAskedAgain command = (IsAsk command.act × (ask_of (line_of (command_data command)) ≡ command)) ⊎ ((fault : Fault) × (command.act ≡ Bad fault))

-- SO WHATEVER A LINE ASKS, in whatever form, the line that is written of it asks again, where it is not refused
abbrev pub LinesAreAskedAgain : Type 0
LinesAreAskedAgain = (line : List ℕ) → IsAskedAgain (ask_of line)

-- ---- what is heard is what was told

-- the line of a notice is heard as what it tells, where its numbers have room, and else as nothing
abbrev pub NoticesAreHeard : Type 0
NoticesAreHeard = (told : Told) (line : List ℕ) → IsNoticeOf told line → heard_in line ≡ heard_of (option_map Hears.Told (with_room told)) None

-- the line of an answer is heard as whom it answers and what it gives; an error whose number has no room is heard as nothing
pub record AnswersAreHeard : Type 0 where
  pub reply : (id : Id) (result : Data) (line : List ℕ) → IsLineOf (reply_data id result) line → IsTextId id
      → heard_in line ≡ Hears.Answer id (result_heard result)
  pub error : (id : Id) (code : ℤ) (message line : List ℕ) → IsLineOf (error_data id code message) line → IsTextId id → all_scalars message ≡ true
      → heard_in line ≡ heard_of None (response_heard (record { id = id; answer = failed code message }))

-- no line is both, and one that is neither is heard as nothing
pub record OneReading (line : List ℕ) : Type 0 where
  pub notice : (heard : Heard) → notice_heard line ≡ Some heard → line_answer line ≡ None
  pub nothing : (heard_in line ≡ Hears.Nothing) ↔ ((notice_heard line ≡ None) × (line_answer line ≡ None))

-- EACH LINE HAS ONE READING at most
abbrev pub LinesComeApart : Type 0
LinesComeApart = (line : List ℕ) → OneReading line

-- ---- the results of the protocol

-- a part of a text, from a place on
abbrev pub chunk_data : List ℕ → ℕ → Data
chunk_data text offset = pair_data (codes "chunk") (text_data text) (codes "offset") (whole_data offset)

-- the revision of an edit, and its undo group
abbrev pub edited_data : ℕ → ℕ → Data
edited_data rev group = pair_data (codes "rev") (whole_data rev) (codes "undo_group") (whole_data group)

-- each result of the protocol is heard as its own kind
pub record ResultsComeApart : Type 0 where
  pub chunk : (text : List ℕ) (offset : ℕ) → all_scalars text ≡ true → offset < 2 ^ 64 → result_heard (chunk_data text offset) ≡ Chunk text offset
  pub edited : (rev group : ℕ) → rev < 2 ^ 64 → group < 2 ^ 64 → result_heard (edited_data rev group) ≡ Edited rev group
  pub lines : (n : ℕ) → result_heard (whole_data n) ≡ Lines n
  pub nothing : result_heard null ≡ Null
