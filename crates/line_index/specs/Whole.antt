-- Where the logical lines of a text start, and where a gap stands in pieces.
use Rattle.std.specs.Prelude.{ℕ, List, length, take, slice_range}
use Rattle.std.specs.List.{concat}
use Rattle.plain_text.specs.Lines.{logical_lines}
use Rattle.plain_text.specs.Text.{byte_len}
use Rattle.plain_screen.specs.declared.piece.Piece.{Piece}
use Rattle.plain_screen.specs.View.{layout_line_of, start_of}

-- the gap where the logical line with this index starts; the text's end where there is no such line
abbrev pub line_start : List ℕ → ℕ → ℕ
line_start text index = length (concat (take index (logical_lines text)))

-- THE POINT OF A GAP: its layout line, and how many bytes stand between the start of that line and the gap
abbrev pub point_of : List ℕ → List Piece → ℕ → ℕ × ℕ
point_of text pieces gap =
    let line = layout_line_of pieces gap in (line, byte_len (slice_range text (start_of pieces line) gap))
