-- Laws: what the definitions of motions come to, whatever the text and its pieces.
use Rattle.std.specs.Prelude.{◌≡◌, ◌≢◌, ℕ, ◌+◌, ◌-◌, ◌<◌, ◌≤◌, true, Bool, List, length}
use Rattle.std.specs.Str.{all_scalars}
use Rattle.plain_text.specs.declared.selection.Region.{Region}
use Rattle.plain_screen.specs.declared.piece.Piece.{Piece}
use Rattle.plain_screen.specs.View.{ArePieces, layout_line_of}
use Rattle.xi_plain.specs.declared.motion.Motion.{Motion}
use Rattle.movement_core.specs.Places.{IsPlace, left_of, right_of}
use Rattle.movement_core.specs.Lines.{StartAtPlaces, above, below, column_of}
use Rattle.movement_core.specs.Motions.{region_after}

-- both ends of a region stand at boundaries
pub record StandsAtPlaces (text : List ℕ) (region : Region) : Type 0 where
  pub anchor : IsPlace text region.anchor
  pub caret : IsPlace text region.caret

-- from a boundary, one step to the right and one to the left come back, but for the text's end
abbrev pub RightThenLeft : Type 0
RightThenLeft = (text : List ℕ) (gap : ℕ) → all_scalars text ≡ true → IsPlace text gap → gap < length text → left_of text (right_of text gap) ≡ gap

-- a motion leaves a region that stands at boundaries at boundaries
abbrev pub MotionsKeepPlaces : Type 0
MotionsKeepPlaces = (tab : ℕ) (text : List ℕ) (pieces : List Piece) (motion : Motion) (extend : Bool) (region : Region) → all_scalars text ≡ true →
    StandsAtPlaces text region → StandsAtPlaces text (region_after tab text pieces motion extend region)

-- a gap stands in a layout line, and not past a goal
pub record IsInLine (tab : ℕ) (text : List ℕ) (pieces : List Piece) (goal line gap : ℕ) : Type 0 where
  pub stands : layout_line_of pieces gap ≡ line
  pub column : column_of tab text pieces gap ≤ goal

-- up and down go to the neighbouring layout line, and not past the goal, but on the first line up and on the last line down
pub record UpAndDownGoToNeighbours : Type 0 where
  pub up : (tab column gap : ℕ) (text : List ℕ) (pieces : List Piece) → ArePieces text pieces → StartAtPlaces text pieces →
      layout_line_of pieces gap ≢ 0 →
      IsInLine tab text pieces column (layout_line_of pieces gap - 1) (above tab text pieces column gap)
  pub down : (tab column gap : ℕ) (text : List ℕ) (pieces : List Piece) → ArePieces text pieces → StartAtPlaces text pieces →
      layout_line_of pieces gap + 1 ≢ length pieces →
      IsInLine tab text pieces column (layout_line_of pieces gap + 1) (below tab text pieces column gap)
