-- What a script says.
use Rattle.std.specs.Prelude.{ℕ, ◌+◌, ◌-◌, ◌^◌, List, [], ◌∷◌, ◌++◌, Option, Some, None, option_map, option_and_then, Result, Ok, Err}
use Rattle.plain_text.specs.InputLines.{lines_of}
use Rattle.case_lines.specs.Lines.{content_of}
use Rattle.case_scripts.specs.declared.said.Way.TheVariants.{Input, Output}
use Rattle.case_scripts.specs.declared.script.Script.{Script}
use Rattle.case_scripts.specs.declared.script.ReadFault.{ReadFault}
use Rattle.case_scripts.specs.declared.script.ReadFault.TheVariants.{BadLine}
use Rattle.case_scripts.specs.declared.shelf.ShelfSaid.{ShelfSaid}
use Rattle.case_scripts.specs.Said.{Piece, bytes, fails, at_most, Meaning, remark, side, status, shelf_fails, file, held, turn, said_of}
use Rattle.case_scripts.specs.Shelf.{no_files, settled, with_failing, with_name, with_text}
use Rattle.case_scripts.specs.Stream.{Stream}
use Rattle.case_scripts.specs.Turns.{no_turns, with_mark}
use Rattle.case_scripts.specs.declared.turns.TurnSaid.{TurnSaid}
use Rattle.case_scripts.specs.declared.turns.TurnsSaid.{TurnsSaid}

-- how many bytes a call moves at most where nothing is said of it
abbrev pub unlimited : ℕ
unlimited = 2 ^ 64 - 1

-- an end of which nothing is said, and what one piece more says: bytes are put to the others, calls that fail too, and the last greatest
-- piece counts
abbrev pub silent : Stream
silent = record { bytes = []; failing = []; piece = unlimited }

abbrev pub with_piece : Stream → Piece → Stream
with_piece stream (bytes text) = record stream { bytes = stream.bytes ++ text }
with_piece stream (fails call) = record stream { failing = stream.failing ++ call ∷ [] }
with_piece stream (at_most count) = record stream { piece = count }

-- a script that says nothing ends with status 0
abbrev pub blank : Script
blank = record { input = silent; output = silent; status = 0; shelf = no_files; turns = no_turns }

abbrev pub with_shelf : Script → ShelfSaid → Script
with_shelf script shelf = record script { shelf = shelf }

abbrev pub with_turns : Script → TurnsSaid → Script
with_turns script turns = record script { turns = turns }

-- WHAT ONE LINE MORE SAYS: of the statuses the last counts; `None` where the line may not stand there
abbrev pub with_said : Script → Meaning → Option Script
with_said script remark = Some script
with_said script (side Input piece) = Some (record script { input = with_piece script.input piece })
with_said script (side Output piece) = Some (record script { output = with_piece script.output piece })
with_said script (status code) = Some (record script { status = code })
with_said script (shelf_fails call) = Some (with_shelf script (with_failing script.shelf call))
with_said script (file when path) = option_map (with_shelf script) (with_name script.shelf when path)
with_said script (held text) = option_map (with_shelf script) (with_text script.shelf text)
with_said script (turn caller mark) = option_map (with_turns script) (with_mark script.turns caller mark)

-- with a line
abbrev pub with_line : Script → List ℕ → Option Script
with_line script line = option_and_then (with_said script) (said_of (content_of line))

-- goes on with the script, or tells the line that is bad
abbrev pub or_bad : ℕ → (Script → Result Script ReadFault) → Option Script → Result Script ReadFault
or_bad number goes_on None = Err (BadLine number)
or_bad number goes_on (Some script) = goes_on script

-- the script at the end of its text: a turn that is not ended is told as a bad line behind the last one
abbrev pub ended_at : ℕ → Option TurnSaid → Script → Result Script ReadFault
ended_at number None script = Ok (with_shelf script (settled script.shelf))
ended_at number (Some begun) script = Err (BadLine number)

-- the script with lines, the first of which has this number, or the first bad one
abbrev pub read_from : ℕ → Script → List (List ℕ) → Result Script ReadFault
read_from number script [] = ended_at number script.turns.begun script
read_from number script (line ∷ lines) = or_bad number (λ next. read_from (number + 1) next lines) (with_line script line)

-- THE SCRIPT of a text
abbrev pub script_of : List ℕ → Result Script ReadFault
script_of text = read_from 1 blank (lines_of text)
