-- Laws of wrapping, of all lines and texts.
use Rattle.std.specs.Prelude.{◌≡◌, ◌⊎◌, ℕ, ◌<◌, ◌≤◌, true, List, [], ◌∷◌, ◌++◌, length}
use Rattle.std.specs.List.{concat}
use Rattle.std.specs.Str.{all_scalars}
use Rattle.plain_screen.specs.View.{ArePieces}
use Rattle.line_break.specs.Breaks.{breaks_of, piece_columns}
use Rattle.line_break.specs.LineEnds.{IsLineEnd, EachClusterFits}
use Rattle.line_break.specs.Pieces.{cut_at, EachPiece, wrapped_pieces}
use Rattle.line_break.specs.Test.{AreBreaks, IsEndPast, IsLeast}

-- the breaks of a line pass the test, and no other list of ends does
pub record BreaksAreOne : Type 0 where
  pub pass : (width tab : ℕ) (line : List ℕ) → all_scalars line ≡ true → AreBreaks width tab line (breaks_of width tab line)
  pub alone : (width tab : ℕ) (line ends others : List ℕ) → AreBreaks width tab line ends → AreBreaks width tab line others → ends ≡ others

-- the pieces joined are the line; and each of them fits, unless the width is 0, or is one cluster
pub record PiecesMakeTheLine : Type 0 where
  pub joined : (width tab : ℕ) (line ends : List ℕ) → AreBreaks width tab line ends → concat (cut_at line 0 ends) ≡ line
  pub each : (width tab : ℕ) (line ends : List ℕ) → 0 < width → 0 < length line → AreBreaks width tab line ends →
      EachPiece (λ start end. (piece_columns tab line start end ≤ width) ⊎ IsLeast (IsEndPast line start) end) 0 ends

-- the pieces of a text for a width are pieces of that text
pub record WrappedPiecesArePieces : Type 0 where
  pub are : (width tab : ℕ) (text : List ℕ) → all_scalars text ≡ true → ArePieces text (wrapped_pieces width tab text)

-- a line end takes no room: where each cluster fits the width, the line with it has the same pieces, but that the last one has it too
pub record LineEndTakesNoRoom : Type 0 where
  pub same : (width tab : ℕ) (line end ends : List ℕ) → all_scalars line ≡ true → (0 < width → EachClusterFits width tab line) →
      IsLineEnd line end → breaks_of width tab line ≡ ends ++ length line ∷ [] →
      breaks_of width tab (line ++ end) ≡ ends ++ length (line ++ end) ∷ []
