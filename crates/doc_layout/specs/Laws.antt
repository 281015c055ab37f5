-- Laws: what the definitions of a layout come to, whatever the text.
use Rattle.std.specs.Prelude.{◌≡◌, ℕ, ◌+◌, ◌-◌, ◌<◌, ◌≤◌, true, is_some, List, length, map, take, Option}
use Rattle.std.specs.List.{flat_map}
use Rattle.plain_text.specs.declared.run.Run.{Run}
use Rattle.plain_text.specs.declared.selection.Region.{Region}
use Rattle.plain_text.specs.Numbers.{has}
use Rattle.plain_edits.specs.declared.style.Span.{Span}
use Rattle.plain_edits.specs.Styles.{Layer, style_at}
use Rattle.plain_screen.specs.Touched.{is_same_but_number}
use Rattle.plain_screen.specs.declared.piece.Piece.{Piece}
use Rattle.plain_screen.specs.View.{ArePieces, layout_line_of}
use Rattle.span_runs.specs.Spans.{spans_in, spans_of}
use Rattle.line_render.specs.Rendered.{carets_of, cut_spans, is_last_piece, is_selected, own_gaps, text_of_piece}
use Rattle.doc_layout.specs.Found.{is_found}
use Rattle.doc_layout.specs.Layout.{layout, layout_line}

-- a layout has the characters of its text, the pieces that it is cut into, and the places of its carets: texts of one layout are one, they
-- are cut alike, and their carets stand at the same gaps
abbrev pub LayoutsTell : Type 0
LayoutsTell = (text other : List ℕ) (pieces parts : List Piece) (regions others : List Region) (results founds : List Run)
    (layers styles : List Layer) →
    ArePieces text pieces → ArePieces other parts →
    layout text pieces regions results layers ≡ layout other parts others founds styles →
    (text ≡ other) × (pieces ≡ parts) × ((gap : ℕ) → gap ≤ length text → has (carets_of regions) gap ≡ has (carets_of others) gap)

-- a line reads of the styles those of its own characters: layers that show the same up to a gap make the same lines before that of the gap
abbrev pub StylesRead : Type 0
StylesRead = (text : List ℕ) (pieces : List Piece) (regions : List Region) (results : List Run) (layers styles : List Layer) (at : ℕ) →
    ArePieces text pieces →
    ((range : Run) → range.end ≤ at → spans_of layers range ≡ spans_of styles range) →
    take (layout_line_of pieces at) (layout text pieces regions results layers) ≡
    take (layout_line_of pieces at) (layout text pieces regions results styles)

-- it reads of regions the carets at its own gaps, and which of its characters are selected: regions that have the same carets, and select the
-- same characters, up to a gap make the same lines before that of the gap
abbrev pub RegionsRead : Type 0
RegionsRead = (text : List ℕ) (pieces : List Piece) (regions others : List Region) (results : List Run) (layers : List Layer) (at : ℕ) →
    ArePieces text pieces →
    ((gap : ℕ) → gap ≤ at → has (carets_of regions) gap ≡ has (carets_of others) gap) →
    ((index : ℕ) → index < at → is_selected regions index ≡ is_selected others index) →
    take (layout_line_of pieces at) (layout text pieces regions results layers) ≡
    take (layout_line_of pieces at) (layout text pieces others results layers)

-- two texts of one length are shown alike up to a gap: they have the same characters left of it, the same carets up to it, and the same
-- characters left of it are selected, found and styled
pub record AreShownAlike (at : ℕ) (text other : List ℕ) (regions others : List Region) (results founds : List Run)
    (layers styles : List Layer) : Type 0 where
  pub long : length text ≡ length other
  pub characters : take at text ≡ take at other
  pub carets : (gap : ℕ) → gap ≤ at → has (carets_of regions) gap ≡ has (carets_of others) gap
  pub selected : (index : ℕ) → index < at → is_selected regions index ≡ is_selected others index
  pub found : (index : ℕ) → index < at → is_found results index ≡ is_found founds index
  pub styled : (range : Run) → range.end ≤ at → spans_of layers range ≡ spans_of styles range

-- a line reads no more than its own characters and what is shown on them: where texts are cut alike up to some line, and are shown alike up to
-- a gap that stands no line before it, the lines before it are the same
abbrev pub LinesRead : Type 0
LinesRead = (text other : List ℕ) (pieces parts : List Piece) (regions others : List Region) (results founds : List Run)
    (layers styles : List Layer) (at line : ℕ) →
    ArePieces text pieces → AreShownAlike at text other regions others results founds layers styles →
    take line pieces ≡ take line parts → line ≤ layout_line_of pieces at →
    take line (layout text pieces regions results layers) ≡ take line (layout other parts others founds styles)

-- the styles that layers give the character with an index
abbrev pub styles_at : List Layer → ℕ → List (Option ℕ)
styles_at layers index = map (λ layer. style_at layer index) layers

-- the spans that layers show in a piece, layer by layer, counted from its start
abbrev pub own_spans : List Layer → Piece → List Span
own_spans layers piece = cut_spans piece.start piece.end (flat_map (spans_in (record { start = piece.start; end = piece.end })) layers)

-- on two pieces of two texts the same is shown: both have the same characters and a number or none, their carets stand at the same gaps, counted
-- from their starts, the same of their characters are selected and found, and they have the same spans of styles
pub record AreShownAs (text other : List ℕ) (piece twin : Piece) (regions others : List Region) (results founds : List Run)
    (layers styles : List Layer) : Type 0 where
  pub characters : text_of_piece text piece ≡ text_of_piece other twin
  pub last : is_last_piece text piece ≡ is_last_piece other twin
  pub numbered : is_some piece.ln ≡ is_some twin.ln
  pub long : piece.end - piece.start ≡ twin.end - twin.start
  pub inside : piece.end ≤ length text
  pub too : twin.end ≤ length other
  pub carets : (k : ℕ) → k < own_gaps (is_last_piece text piece) (length (text_of_piece text piece)) →
      has (carets_of regions) (piece.start + k) ≡ has (carets_of others) (twin.start + k)
  pub selected : (k : ℕ) → k < length (text_of_piece text piece) → is_selected regions (piece.start + k) ≡ is_selected others (twin.start + k)
  pub found : (k : ℕ) → k < piece.end - piece.start → is_found results (piece.start + k) ≡ is_found founds (twin.start + k)
  pub styled : own_spans layers piece ≡ own_spans styles twin

-- such pieces are drawn alike, but for their numbers
abbrev pub PiecesRead : Type 0
PiecesRead = (text other : List ℕ) (piece twin : Piece) (regions others : List Region) (results founds : List Run) (layers styles : List Layer) →
    AreShownAs text other piece twin regions others results founds layers styles →
    is_same_but_number (layout_line text regions results layers piece) (layout_line other others founds styles twin) ≡ true
