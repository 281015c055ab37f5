-- The pieces of a line and of a whole text.
use Rattle.std.specs.Prelude.{ℕ, List, [], ◌∷◌, slice_range}
use Rattle.plain_screen.specs.View.{pieces_by}
use Rattle.plain_screen.specs.declared.piece.Piece.{Piece}
use Rattle.line_break.specs.Breaks.{breaks_of}

-- the pieces of a line from `start` on, as characters, each up to the next of these ends
abbrev pub cut_at : List ℕ → ℕ → List ℕ → List (List ℕ)
cut_at line start [] = []
cut_at line start (end ∷ ends) = slice_range line start end ∷ cut_at line end ends

-- P holds of the start and the end of each piece
abbrev pub EachPiece : (ℕ → ℕ → Type 0) → ℕ → List ℕ → Type 0
EachPiece P start [] = Unit {0}
EachPiece P start (end ∷ ends) = P start end × EachPiece P end ends

-- THE PIECES OF A TEXT for a width and a tab width: each of its logical lines is cut at its breaks
abbrev pub wrapped_pieces : ℕ → ℕ → List ℕ → List Piece
wrapped_pieces width tab text = pieces_by (breaks_of width tab) text
