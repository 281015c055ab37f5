-- Points of a view, and what stands around a gap: the word and the line that a gesture selects, and the start of a numbered line.
use Rattle.std.specs.Prelude.{ℕ, ◌+◌, ◌-◌, min, true, nat_le, nat_lt, ◌&&◌, if◌then◌else◌, List, length, take, drop, reverse, slice_range}
use Rattle.std.specs.List.{concat}
use Rattle.plain_text.specs.Lines.{logical_lines}
use Rattle.plain_text.specs.Text.{byte_len}
use Rattle.plain_text.specs.declared.selection.Region.{Region}
use Rattle.plain_screen.specs.View.{logical_line_of}
use Rattle.plain_screen.specs.declared.piece.Piece.{Piece}
use Rattle.selection_core.specs.Selection.{spanning}
use Rattle.movement_core.specs.Lines.{belongs_to, start_of}
use Rattle.movement_core.specs.Places.{greatest_place}
use Rattle.movement_core.specs.Words.{run_len}

-- THE GAP OF A POINT, which is a layout line from 0 and a byte column: the greatest caret place of the line whose byte offset in it is
-- not past the column; a line past the last one is the text's end
abbrev pub gap_of_point : List ℕ → List Piece → ℕ → ℕ → ℕ
gap_of_point text pieces line column =
    if nat_lt line (length pieces)
    then greatest_place (λ place. belongs_to pieces line place && nat_le (byte_len (slice_range text (start_of pieces line) place)) column) text
    else length text

-- THE WORD AT A GAP: the longest run of one class around the character right of the gap, or left of it at the text's end; in an empty
-- text it is a caret. Feeds and blanks are such runs too, and it is counted in characters, whatever clusters they are in
abbrev pub word_around : List ℕ → ℕ → Region
word_around text gap =
    let index = min gap (length text - 1) in
    let up_to = reverse (take (index + 1) text) in
    spanning true (length up_to - run_len up_to) (index + run_len (drop index text))

-- THE LINE AT A GAP: its logical line with the LF, so that the caret is at the start of the next one
abbrev pub line_around : List ℕ → ℕ → Region
line_around text gap = let line = logical_line_of text gap in spanning true line.start (line.start + length line.text)

-- the gap where a logical line starts, counted from 0: so many characters stand in the lines before it. Where there is no such line it
-- is the text's end
abbrev pub start_of_numbered : List ℕ → ℕ → ℕ
start_of_numbered text line = length (concat (take line (logical_lines text)))
