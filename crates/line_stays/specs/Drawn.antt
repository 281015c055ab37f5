-- Layouts as lines that are drawn of the pieces of a text.
use Rattle.std.specs.Prelude.{◌≡◌, ℕ, ◌+◌, List, ◌++◌, map, slice_range}
use Rattle.plain_text.specs.declared.run.Run.{Run}
use Rattle.rope_node.specs.Lengths.{lf_count}
use Rattle.plain_screen.specs.declared.piece.Piece.{Piece}
use Rattle.plain_screen.specs.declared.screen.Line.{Line}
use Rattle.plain_screen.specs.View.{pieces_by}

-- lines are drawn of the pieces of a text: each has the characters of its piece, and its number
pub record IsDrawnOf (text : List ℕ) (draw : Piece → Line) : Type 0 where
  pub characters : (piece : Piece) → (draw piece).text ≡ slice_range text piece.start piece.end
  pub number : (piece : Piece) → (draw piece).ln ≡ piece.ln

-- the lines that are drawn of a text whose logical lines are cut by a rule
abbrev pub drawn_by : (List ℕ → List ℕ) → (Piece → Line) → List ℕ → List Line
drawn_by ends_of draw text = map draw (pieces_by ends_of text)

-- THE LOGICAL LINES FROM THAT OF A GAP TO THAT OF ANOTHER, of which these stand left of the one, and between
abbrev pub lines_between : List ℕ → List ℕ → Run
lines_between front come = record { start = lf_count front; end = lf_count (front ++ come) + 1 }
