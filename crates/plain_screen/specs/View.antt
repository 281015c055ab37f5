-- A text cut into pieces, each of which is a line of a layout, and where a gap belongs.
use Rattle.std.specs.Prelude.{◌≡◌, ℕ, zero, suc, ◌+◌, ◌-◌, ◌<◌, ◌≤◌, nat_lt, nat_le, if◌then◌else◌, List, [], ◌∷◌, ◌++◌, length, map, take, ◌⊎◌, Option, Some, None, slice_get, unwrap_or}
use Rattle.std.specs.List.{AllByRecursion, concat, count_by}
use Rattle.std.specs.Option.{option_map}
use Rattle.plain_text.specs.Lines.{logical_lines}
use Rattle.plain_text.specs.declared.run.Run.{Run}
use Rattle.plain_screen.specs.declared.piece.Piece.{Piece}

-- the numbers rise from `from` on, and the last of them is `len`
abbrev pub RiseTo : ℕ → ℕ → List ℕ → Type 0
RiseTo len from [] = from ≡ len
RiseTo len from (end ∷ ends) = (from < end) × RiseTo len end ends

-- where the pieces of a line with so many characters may end: one after the other up to its end, and none is empty but that of an empty line
abbrev pub AreEnds : ℕ → List ℕ → Type 0
AreEnds zero ends = ends ≡ 0 ∷ []
AreEnds (suc len) ends = RiseTo (suc len) 0 ends

-- the pieces of a line that starts at gap `start`, each up to the next of these ends; the first one has this number, the others have none
abbrev pub pieces_of_line : ℕ → Option ℕ → ℕ → List ℕ → List Piece
pieces_of_line start ln from [] = []
pieces_of_line start ln from (end ∷ ends) =
    record { start = start + from; end = start + end; ln = ln } ∷ pieces_of_line start None end ends

-- the pieces of lines, each with the ends of its own; the first line has this number and starts at gap `start`
abbrev pub pieces_from : ℕ → ℕ → List (List ℕ × List ℕ) → List Piece
pieces_from number start [] = []
pieces_from number start ((line, ends) ∷ lines) =
    pieces_of_line start (Some number) 0 ends ++ pieces_from (number + 1) (start + length line) lines

-- THE PIECES OF A TEXT: each of its logical lines is cut somewhere, and the lines are numbered from 1
pub record ArePieces (text : List ℕ) (pieces : List Piece) : Type 0 where
  pub cuts : List (List ℕ × List ℕ)
  pub lines : map (λ (line, ends). line) cuts ≡ logical_lines text
  pub ends : AllByRecursion (λ (line, ends). AreEnds (length line) ends) cuts
  pub is : pieces ≡ pieces_from 1 0 cuts

-- the pieces of a text by a rule that says where a line is cut; and those of a text that is cut nowhere
abbrev pub pieces_by : (List ℕ → List ℕ) → List ℕ → List Piece
pieces_by ends_of text = pieces_from 1 0 (map (λ line. (line, ends_of line)) (logical_lines text))

abbrev pub whole_lines : List ℕ → List Piece
whole_lines text = pieces_by (λ line. length line ∷ []) text

-- THE LAYOUT LINE OF A GAP: the index of the last piece whose start is not after it
abbrev pub layout_line_of : List Piece → ℕ → ℕ
layout_line_of pieces gap = count_by (λ piece. nat_le piece.start gap) pieces - 1

-- the same said of an index: the piece starts by the gap, and each later one after it
pub record IsLayoutLineOf (pieces : List Piece) (gap index : ℕ) : Type 0 where
  pub inside : index < length pieces
  pub by_then : (piece : Piece) → slice_get pieces index ≡ Some piece → piece.start ≤ gap
  pub last : (later : ℕ) (piece : Piece) → index < later → slice_get pieces later ≡ Some piece → gap < piece.start

-- the gap at which a layout line starts; 0 where there is no such line
abbrev pub start_of : List Piece → ℕ → ℕ
start_of pieces line = unwrap_or (option_map (λ piece. piece.start) (slice_get pieces line)) 0

-- a logical line: its index, the gap where it starts, and its characters
pub record LogicalLine : Type 0 where
  pub index : ℕ
  pub start : ℕ
  pub text : List ℕ

-- the last of these lines whose start is not after a gap; the first of them has this index and start
abbrev pub logical_line_from : ℕ → ℕ → ℕ → List (List ℕ) → LogicalLine
logical_line_from index start gap [] = record { index = index; start = start; text = [] }
logical_line_from index start gap (line ∷ []) = record { index = index; start = start; text = line }
logical_line_from index start gap (line ∷ next ∷ lines) =
    if nat_lt gap (start + length line) then record { index = index; start = start; text = line }
    else logical_line_from (index + 1) (start + length line) gap (next ∷ lines)

-- THE LOGICAL LINE OF A GAP
abbrev pub logical_line_of : List ℕ → ℕ → LogicalLine
logical_line_of text gap = logical_line_from 0 0 gap (logical_lines text)

-- THE LOGICAL LINE THAT A LAYOUT LINE IS OF, and the characters of the text that it has
abbrev pub line_under : List ℕ → List Piece → ℕ → LogicalLine
line_under text pieces line = logical_line_of text (start_of pieces line)

abbrev pub extent_of : LogicalLine → Run
extent_of line = record { start = line.start; end = line.start + length line.text }

-- the same said of a line: it is the line of this index, starts where the lines before it end, and is the last one that starts by the gap
pub record IsLogicalLineOf (text : List ℕ) (gap : ℕ) (line : LogicalLine) : Type 0 where
  pub is : slice_get (logical_lines text) line.index ≡ Some line.text
  pub start : line.start ≡ length (concat (take line.index (logical_lines text)))
  pub by_then : line.start ≤ gap
  pub last : (line.index + 1 ≡ length (logical_lines text)) ⊎ (gap < line.start + length line.text)
