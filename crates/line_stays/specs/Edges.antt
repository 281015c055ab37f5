-- Where the pieces of a logical line begin and end.
use Rattle.std.specs.Prelude.{◌≡◌, ℕ, ◌+◌, not, is_some, List, drop}
use Rattle.std.specs.List.{prefix_len}
use Rattle.plain_screen.specs.declared.piece.Piece.{Piece}
use Rattle.plain_screen.specs.View.{layout_line_of, line_under, pieces_by}
use Rattle.line_stays.specs.Laws.{CutsLines}

-- the first piece of the logical line that a piece is of
abbrev pub first_piece : List ℕ → List Piece → ℕ → ℕ
first_piece text pieces index = layout_line_of pieces (line_under text pieces index).start

-- the piece behind that logical line: the first one behind the piece that has a number; where there is none, as many as there are
abbrev pub past_piece : List Piece → ℕ → ℕ
past_piece pieces index = index + 1 + prefix_len (λ piece. not (is_some piece.ln)) (drop (index + 1) pieces)

-- two texts are cut by one rule
pub record AreCutAlike (text other : List ℕ) (pieces parts : List Piece) : Type 0 where
  pub ends_of : List ℕ → List ℕ
  pub cuts : CutsLines ends_of text
  pub too : CutsLines ends_of other
  pub is : pieces ≡ pieces_by ends_of text
  pub are : parts ≡ pieces_by ends_of other
