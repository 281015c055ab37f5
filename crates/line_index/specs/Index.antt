-- An index of lines as contracts see it, and which lines an edit touches.
use Rattle.std.specs.Prelude.{ℕ, ◌+◌, ◌-◌, Bool, true, false, List, length, reverse, slice_range}
use Rattle.std.specs.List.{prefix_len}
use Rattle.plain_edits.specs.declared.delta.UnitDelta.{UnitDelta}
use Rattle.plain_screen.specs.declared.piece.Piece.{Piece}
use Rattle.rope_node.specs.Lengths.{lf_count}
use Rattle.delta_core.specs.UnitStep.{UnitStep, Kept, Dropped, New, steps_of}
use Rattle.delta_core.specs.Units.{text_after}
use Rattle.line_break.specs.Pieces.{wrapped_pieces}

-- AN INDEX OF LINES: a text, the width at which its lines are wrapped (0 where none is), and the tab width
pub record Index : Type 0 where
  pub text : List ℕ
  pub width : ℕ
  pub tab : ℕ

-- the pieces of its text
abbrev pub pieces_in : Index → List Piece
pieces_in index = wrapped_pieces index.width index.tab index.text

-- how many characters an edit keeps before its first change, and how many after its last
abbrev pub is_kept : UnitStep → Bool
is_kept Kept = true
is_kept Dropped = false
is_kept (New c) = false

abbrev pub kept_left : UnitDelta → ℕ
kept_left units = prefix_len is_kept (steps_of units)

abbrev pub kept_right : UnitDelta → ℕ
kept_right units = prefix_len is_kept (reverse (steps_of units))

-- THE LINES THAT AN EDIT TOUCHES: how many logical lines of the text after have a gap from the one before its first change to the one
-- after its last
abbrev pub touched_lines : UnitDelta → List ℕ → ℕ
touched_lines units text =
    let after = text_after units text in
    lf_count (slice_range after (kept_left units) (length after - kept_right units)) + 1
