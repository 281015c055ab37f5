-- The layout of a text that is cut into pieces, with the carets and the selected characters of regions, the results of a search and the styles
-- of layers, and the place of a gap on it.
use Rattle.std.specs.Prelude.{ℕ, List, ◌++◌, length, map}
use Rattle.plain_text.specs.declared.run.Run.{Run}
use Rattle.plain_text.specs.declared.selection.Region.{Region}
use Rattle.plain_edits.specs.declared.style.Span.{Span}
use Rattle.plain_edits.specs.Styles.{Layer}
use Rattle.plain_screen.specs.declared.piece.Piece.{Piece}
use Rattle.plain_screen.specs.declared.screen.Line.{Line}
use Rattle.plain_screen.specs.View.{layout_line_of}
use Rattle.span_runs.specs.Spans.{spans_of}
use Rattle.line_render.specs.Rendered.{rendered}
use Rattle.plain_view.specs.Viewed.{byte_column_of}
use Rattle.doc_layout.specs.Found.{found_spans}

-- the spans that layers show in a piece; where a run goes on past its ends it is cut there
abbrev pub styled_spans : List Layer → Piece → List Span
styled_spans layers piece = spans_of layers (record { start = piece.start; end = piece.end })

-- a line of the layout: that of its piece, with the carets, selected, found and styled characters that are its own
abbrev pub layout_line : List ℕ → List Region → List Run → List Layer → Piece → Line
layout_line text regions results layers piece =
    rendered text piece regions (found_spans results (length text) ++ styled_spans layers piece)

-- THE LAYOUT of a text in these pieces, with these regions, these results of a search and these layers of styles: each piece is rendered
abbrev pub layout : List ℕ → List Piece → List Region → List Run → List Layer → List Line
layout text pieces regions results layers = map (layout_line text regions results layers) pieces

-- a place on the layout: a line, from 0, and a byte offset in it
pub record Position : Type 0 where
  pub line : ℕ
  pub col : ℕ

-- THE PLACE of a gap of a text in these pieces
abbrev pub position_of : List ℕ → List Piece → ℕ → Position
position_of text pieces gap = record { line = layout_line_of pieces gap; col = byte_column_of text pieces gap }
