-- Caret places of a layout line, and their columns.
use Rattle.std.specs.Prelude.{◌≡◌, ℕ, ◌≤◌, ◌+◌, ◌-◌, ◌==◌, ◌&&◌, Bool, nat_le, if◌then◌else◌, List, length}
use Rattle.std.specs.List.{AllByRecursion}
use Rattle.plain_screen.specs.declared.piece.Piece.{Piece}
use Rattle.plain_screen.specs.View.{LogicalLine, layout_line_of, logical_line_of}
pub use Rattle.plain_screen.specs.View.{line_under, start_of}
use Rattle.cluster_core.specs.Columns.{columns_between}
use Rattle.movement_core.specs.declared.lines.LineText.{LineText}
use Rattle.movement_core.specs.Places.{IsPlace, least_place, greatest_place}

-- every piece starts at a boundary of the text
abbrev pub StartAtPlaces : List ℕ → List Piece → Type 0
StartAtPlaces text pieces = AllByRecursion (λ piece. IsPlace text piece.start) pieces

-- whether a gap belongs to a layout line; the boundaries that do are its CARET PLACES
abbrev pub belongs_to : List Piece → ℕ → ℕ → Bool
belongs_to pieces line gap = layout_line_of pieces gap == line

-- a line that is held is this logical line
pub record IsTextOf (line : LogicalLine) (held : LineText) : Type 0 where
  pub start : held.start ≡ line.start
  pub text : held.text ≡ line.text

-- the gaps of a layout line are those from its start to its last gap
pub record IsLastGap (text : List ℕ) (pieces : List Piece) (line last : ℕ) : Type 0 where
  pub ordered : start_of pieces line ≤ last
  pub inside : last ≤ length text
  pub own : (gap : ℕ) → start_of pieces line ≤ gap → gap ≤ last → layout_line_of pieces gap ≡ line
  pub only : (gap : ℕ) → gap ≤ length text → layout_line_of pieces gap ≡ line → gap ≤ last

-- THE COLUMN of a gap: the columns between the start of its layout line and the gap, in its logical line
abbrev pub column_of : ℕ → List ℕ → List Piece → ℕ → ℕ
column_of tab text pieces gap =
    let line = logical_line_of text gap in
    columns_between tab line.text (start_of pieces (layout_line_of pieces gap) - line.start) (gap - line.start)

-- the least and the greatest caret place of a layout line
abbrev pub line_start : List ℕ → List Piece → ℕ → ℕ
line_start text pieces line = least_place (belongs_to pieces line) text

abbrev pub line_end : List ℕ → List Piece → ℕ → ℕ
line_end text pieces line = greatest_place (belongs_to pieces line) text

-- THE PLACE AT A COLUMN of a layout line: its greatest caret place whose column is at most that
abbrev pub place_at_column : ℕ → List ℕ → List Piece → ℕ → ℕ → ℕ
place_at_column tab text pieces line column =
    greatest_place (λ place. belongs_to pieces line place && nat_le (column_of tab text pieces place) column) text

-- from a gap to the layout line above or below; to the text's start or its end where there is none
abbrev pub above : ℕ → List ℕ → List Piece → ℕ → ℕ → ℕ
above tab text pieces column gap =
    let line = layout_line_of pieces gap in if line == 0 then 0 else place_at_column tab text pieces (line - 1) column

abbrev pub below : ℕ → List ℕ → List Piece → ℕ → ℕ → ℕ
below tab text pieces column gap =
    let line = layout_line_of pieces gap in
    if line + 1 == length pieces then length text else place_at_column tab text pieces (line + 1) column
