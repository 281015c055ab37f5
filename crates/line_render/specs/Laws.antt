-- Laws of rendered lines, of all texts and whatever pieces they are cut into.
use Rattle.std.specs.Prelude.{◌≡◌, ◌↔◌, ℕ, ◌+◌, ◌<◌, ◌≤◌, ◌==◌, List, length, Some, slice_get}
use Rattle.plain_text.specs.declared.selection.Region.{Region}
use Rattle.plain_edits.specs.declared.style.Span.{Span}
use Rattle.plain_screen.specs.declared.piece.Piece.{Piece}
use Rattle.plain_screen.specs.View.{ArePieces, layout_line_of}
use Rattle.line_render.specs.Rendered.{own_gaps, is_last_piece, rendered, rendered_piece, text_of_piece}

-- a piece that is rendered from its own characters is the line that the whole text gives: that it is the last one is all that has to be told
abbrev pub PiecesRenderAlike : Type 0
PiecesRenderAlike = (text : List ℕ) (pieces : List Piece) (index : ℕ) (piece : Piece) (regions : List Region) (spans : List Span) →
    ArePieces text pieces → slice_get pieces index ≡ Some piece →
    rendered text piece regions spans ≡ rendered_piece (text_of_piece text piece) piece (index + 1 == length pieces) regions spans

-- the gaps that a piece's carets may stand at are those whose layout line it is: the last one whose start is not after the gap
abbrev pub CaretsStandInTheirLines : Type 0
CaretsStandInTheirLines = (text : List ℕ) (pieces : List Piece) (index : ℕ) (piece : Piece) (gap : ℕ) →
    ArePieces text pieces → slice_get pieces index ≡ Some piece → gap ≤ length text →
    ((piece.start ≤ gap) × (gap < piece.start + own_gaps (is_last_piece text piece) (length (text_of_piece text piece)))) ↔ (layout_line_of pieces gap ≡ index)
