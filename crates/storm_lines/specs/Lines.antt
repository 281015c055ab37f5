-- THE LINES OF THE STORM: what anyone can type again, from two numbers alone.
use Rattle.std.specs.Prelude.{ℕ, ◌+◌, ◌/◌, ◌%◌, ◌==◌, if◌then◌else◌, List, ◌∷◌, ◌++◌, map, codes}
use Rattle.std.specs.List.{concat}
use Rattle.rand_core.specs.Steps.{first_words}
use Rattle.rand_core.specs.Pcg32Seed.{pcg32_seed}
use Rattle.rand_pcg.specs.Pcg.{pcg32, pcg32_of_seed}
use Rattle.storm_lines.specs.declared.line.StormLine.{StormLine}
use Rattle.storm_lines.specs.declared.line.StormLine.TheVariants.{Opening, Insert, InsertNewline, DeleteBackward, DeleteForward, MoveLeft, MoveUp, MoveRight, Undo, Redo}

-- the first words of the generator `Lcg64Xsh32` that is seeded with this number
abbrev pub drawn_words : ℕ → ℕ → List ℕ
drawn_words count seed = first_words pcg32 count (pcg32_of_seed (pcg32_seed 16 seed))

-- the letter that a word types
abbrev pub letter_of : ℕ → ℕ
letter_of word = 97 + word / 16 % 26

-- THE LINE OF A WORD: of sixteen, eight type a letter, and each of the others edits in a way of its own
abbrev pub storm_line_of : ℕ → StormLine
storm_line_of word =
    if word % 16 == 8 then InsertNewline
    else (if word % 16 == 9 then DeleteBackward
    else (if word % 16 == 10 then DeleteForward
    else (if word % 16 == 11 then MoveLeft
    else (if word % 16 == 12 then MoveUp
    else (if word % 16 == 13 then MoveRight
    else (if word % 16 == 14 then Undo
    else (if word % 16 == 15 then Redo
    else Insert (letter_of word))))))))

-- THE LINES of a storm: one that opens a view, and one for each of so many words of the generator with this seed
abbrev pub storm_lines : ℕ → ℕ → List StormLine
storm_lines count seed = Opening ∷ map storm_line_of (drawn_words count seed)

-- the line that edits the view by this method, with these parameters
abbrev pub edit_line : List ℕ → List ℕ → List ℕ
edit_line method params =
    codes "{\"method\":\"edit\",\"params\":{\"method\":\"" ++ method ++ codes "\",\"params\":" ++ params ++ codes ",\"view_id\":\"view-id-1\"}}\n"

-- the bytes of a line, with its LF
abbrev pub line_bytes : StormLine → List ℕ
line_bytes Opening = codes "{\"id\":0,\"method\":\"new_view\",\"params\":{}}\n"
line_bytes (Insert letter) = edit_line (codes "insert") (codes "{\"chars\":\"" ++ letter ∷ codes "\"}")
line_bytes InsertNewline = edit_line (codes "insert_newline") (codes "[]")
line_bytes DeleteBackward = edit_line (codes "delete_backward") (codes "[]")
line_bytes DeleteForward = edit_line (codes "delete_forward") (codes "[]")
line_bytes MoveLeft = edit_line (codes "move_left") (codes "[]")
line_bytes MoveUp = edit_line (codes "move_up") (codes "[]")
line_bytes MoveRight = edit_line (codes "move_right") (codes "[]")
line_bytes Undo = edit_line (codes "undo") (codes "[]")
line_bytes Redo = edit_line (codes "redo") (codes "[]")

-- the bytes of lines, one after the other
abbrev pub bytes_of_all : List StormLine → List ℕ
bytes_of_all lines = concat (map line_bytes lines)

-- THE INPUT of a storm
abbrev pub storm_bytes : ℕ → ℕ → List ℕ
storm_bytes count seed = bytes_of_all (storm_lines count seed)
