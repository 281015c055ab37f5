-- What motions make of a region, and of a selection.
use Rattle.std.specs.Prelude.{ℕ, Bool, ◌||◌, if◌then◌else◌, List, length, map, Option, Some, None, unwrap_or}
use Rattle.plain_text.specs.declared.selection.Region.{Region}
use Rattle.plain_screen.specs.declared.piece.Piece.{Piece}
use Rattle.plain_screen.specs.View.{layout_line_of}
use Rattle.xi_plain.specs.declared.motion.Motion.{Motion}
use Rattle.xi_plain.specs.declared.motion.Motion.TheVariants.{Left, Right, Up, Down, WordLeft, WordRight, LineStart, LineEnd, TextStart, TextEnd}
use Rattle.selection_core.specs.Selection.{lesser_end, greater_end, is_caret, selection_of}
use Rattle.movement_core.specs.Places.{left_of, right_of}
use Rattle.movement_core.specs.Lines.{above, below, column_of, line_end, line_start}
use Rattle.movement_core.specs.Words.{word_left, word_right}

-- THE GOAL of a region: the one that it keeps, else the column of its caret
abbrev pub goal_of : ℕ → List ℕ → List Piece → Region → ℕ
goal_of tab text pieces region = unwrap_or region.goal (column_of tab text pieces region.caret)

-- THE TARGET of a motion: where it takes the caret of a region. Sidewards a region that is no caret becomes one at its end, and up or
-- down it starts from there; but one that is extended moves its caret
abbrev pub target : ℕ → List ℕ → List Piece → Motion → Bool → Region → ℕ
target tab text pieces Left extend region = if extend || is_caret region then left_of text region.caret else lesser_end region
target tab text pieces Right extend region = if extend || is_caret region then right_of text region.caret else greater_end region
target tab text pieces Up extend region =
    above tab text pieces (goal_of tab text pieces region) (if extend then region.caret else lesser_end region)
target tab text pieces Down extend region =
    below tab text pieces (goal_of tab text pieces region) (if extend then region.caret else greater_end region)
target tab text pieces WordLeft extend region = word_left text region.caret
target tab text pieces WordRight extend region = word_right text region.caret
target tab text pieces LineStart extend region = line_start text pieces (layout_line_of pieces region.caret)
target tab text pieces LineEnd extend region = line_end text pieces (layout_line_of pieces region.caret)
target tab text pieces TextStart extend region = 0
target tab text pieces TextEnd extend region = length text

-- the goal that a region has after a motion: its own after up and down, and none after every other
abbrev pub goal_after : ℕ → List ℕ → List Piece → Motion → Region → Option ℕ
goal_after tab text pieces Up region = Some (goal_of tab text pieces region)
goal_after tab text pieces Down region = Some (goal_of tab text pieces region)
goal_after tab text pieces motion region = None

-- A REGION AFTER A MOTION: its caret stands at the target, and its anchor too unless it is extended
abbrev pub region_after : ℕ → List ℕ → List Piece → Motion → Bool → Region → Region
region_after tab text pieces motion extend region =
    let caret = target tab text pieces motion extend region in
    record { anchor = if extend then region.anchor else caret; caret = caret; goal = goal_after tab text pieces motion region }

-- A SELECTION AFTER A MOTION: each region is moved, and they become a selection in whatever order they then stand
abbrev pub regions_after : ℕ → List ℕ → List Piece → Motion → Bool → List Region → List Region
regions_after tab text pieces motion extend regions = selection_of (map (region_after tab text pieces motion extend) regions)
