-- A text with the pieces that it is cut into, and where a gap stands in them.
use Rattle.std.specs.Prelude.{◌≡◌, ℕ, ◌-◌, List, drop, map}
use Rattle.plain_text.specs.Text.{place_of}
use Rattle.plain_screen.specs.declared.piece.Piece.{Piece}
use Rattle.plain_screen.specs.View.{ArePieces, layout_line_of, start_of}

-- what a view holds
pub record Viewed : Type 0 where
  pub text : List ℕ
  pub pieces : List Piece

-- the bytes at which pieces begin in the text
abbrev pub begins_of : List ℕ → List Piece → List ℕ
begins_of text pieces = map (λ piece. place_of text piece.start) pieces

-- a view is sound: the pieces are those of its text, and it keeps where each of them begins
pub record IsKept (text : List ℕ) (pieces : List Piece) (begins : List ℕ) : Type 0 where
  pub sound : ArePieces text pieces
  pub kept : begins ≡ begins_of text pieces

-- THE BYTE COLUMN of a gap: how many bytes stand between the start of its layout line and the gap
abbrev pub byte_column_of : List ℕ → List Piece → ℕ → ℕ
byte_column_of text pieces gap =
    let start = start_of pieces (layout_line_of pieces gap) in
    place_of (drop start text) (gap - start)
