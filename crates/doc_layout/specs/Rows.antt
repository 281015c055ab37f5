-- Worked rows of the layout.
use Rattle.std.specs.Prelude.{◌≡◌, ℕ, ℤ, pos, negsuc, List, [], ◌∷◌, Option, Some, None, map}
use Rattle.plain_text.specs.declared.run.Run.{Run}
use Rattle.plain_text.specs.declared.selection.Region.{Region}
use Rattle.plain_edits.specs.Styles.{Layer}
use Rattle.plain_screen.specs.declared.piece.Piece.{Piece}
use Rattle.plain_screen.specs.declared.screen.Line.{Line}
use Rattle.plain_screen.specs.declared.screen.Triple.{Triple}
use Rattle.plain_screen.specs.View.{whole_lines}
use Rattle.line_break.specs.Pieces.{wrapped_pieces}
use Rattle.selection_core.specs.Selection.{caret_of}
use Rattle.span_styles.specs.Layers.{new_layers}
use Rattle.doc_layout.specs.Layout.{layout, position_of, Position}

-- a line of a few characters, in which nothing is selected or found
abbrev pub shown_line : Option ℕ → List ℕ → List ℕ → Line
shown_line number text cursor = record { text = text; ln = number; cursor = cursor; styles = [] }

-- the layout of a text that is cut nowhere, with carets at these gaps, and the place of a gap on it
abbrev pub whole_layout : List ℕ → List ℕ → List Line
whole_layout text gaps = layout text (whole_lines text) (map caret_of gaps) [] []

abbrev pub whole_place : List ℕ → ℕ → Position
whole_place text gap = position_of text (whole_lines text) gap

-- a text of three characters in two pieces
abbrev pub cut_in_two : List Piece
cut_in_two = record { start = 0; end = 2; ln = Some 1 } ∷ record { start = 2; end = 3; ln = None } ∷ []

-- a region from one gap to another, and the layout of a text that is cut nowhere with one region, results of a search and layers of styles
abbrev pub region_to : ℕ → ℕ → Region
region_to anchor caret = record { anchor = anchor; caret = caret; goal = None }

abbrev pub marked_layout : List ℕ → Region → List Run → List Layer → List Line
marked_layout text region results layers = layout text (whole_lines text) (region ∷ []) results layers

abbrev pub styled_line : Option ℕ → List ℕ → List ℕ → List Triple → Line
styled_line number text cursor triples = record { text = text; ln = number; cursor = cursor; styles = triples }

abbrev pub triple : ℤ → ℕ → ℕ → Triple
triple start len id = record { start = start; len = len; id = id }

-- the layout of the empty text, of a text of two lines, and of one line in two pieces; carets stand at the last line that starts by their
-- gap, each once
pub record Layouts : Type 0 where
  pub empty : whole_layout [] (0 ∷ []) ≡ shown_line (Some 1) [] (0 ∷ []) ∷ []
  pub two_lines : whole_layout (97 ∷ 233 ∷ 10 ∷ []) (1 ∷ 2 ∷ 3 ∷ []) ≡
      shown_line (Some 1) (97 ∷ 233 ∷ 10 ∷ []) (1 ∷ 3 ∷ []) ∷ shown_line (Some 2) [] (0 ∷ []) ∷ []
  pub pieces : layout (97 ∷ 98 ∷ 99 ∷ []) cut_in_two (map caret_of (1 ∷ 2 ∷ [])) [] [] ≡
      shown_line (Some 1) (97 ∷ 98 ∷ []) (1 ∷ []) ∷ shown_line None (99 ∷ []) (0 ∷ []) ∷ []
  pub column : whole_place (97 ∷ 233 ∷ 10 ∷ []) 2 ≡ record { line = 0; col = 3 }
  pub last_line : whole_place (97 ∷ 233 ∷ 10 ∷ []) 3 ≡ record { line = 1; col = 0 }
  pub second_piece : position_of (97 ∷ 98 ∷ 99 ∷ []) cut_in_two 2 ≡ record { line = 1; col = 0 }

-- selected characters have the id 0, those that a search found the id 1
pub record Styles : Type 0 where
  -- all of `abc` is selected, and `b` is found
  pub both : marked_layout (97 ∷ 98 ∷ 99 ∷ []) (region_to 0 3) (record { start = 1; end = 2 } ∷ []) [] ≡
      styled_line (Some 1) (97 ∷ 98 ∷ 99 ∷ []) (3 ∷ []) (triple (pos 0) 3 0 ∷ triple (negsuc 1) 1 1 ∷ []) ∷ []
  -- `b` and `c` are found, and the text is cut in two: each piece has its part
  pub pieces : layout (97 ∷ 98 ∷ 99 ∷ []) cut_in_two (region_to 0 3 ∷ []) (record { start = 1; end = 3 } ∷ []) [] ≡
      styled_line (Some 1) (97 ∷ 98 ∷ []) [] (triple (pos 0) 2 0 ∷ triple (negsuc 0) 1 1 ∷ []) ∷
      styled_line None (99 ∷ []) (1 ∷ []) (triple (pos 0) 1 0 ∷ triple (negsuc 0) 1 1 ∷ []) ∷ []
  -- `aa` in `aaaa`: results that touch are one run
  pub run : marked_layout (97 ∷ 97 ∷ 97 ∷ 97 ∷ []) (region_to 0 0) (record { start = 0; end = 2 } ∷ record { start = 2; end = 4 } ∷ []) [] ≡
      styled_line (Some 1) (97 ∷ 97 ∷ 97 ∷ 97 ∷ []) (0 ∷ []) (triple (pos 0) 4 1 ∷ []) ∷ []
  -- `a`, LF and `b` are selected, the LF too
  pub feed : marked_layout (97 ∷ 10 ∷ 98 ∷ []) (region_to 3 0) [] [] ≡
      styled_line (Some 1) (97 ∷ 10 ∷ []) (0 ∷ []) (triple (pos 0) 2 0 ∷ []) ∷ styled_line (Some 2) (98 ∷ []) [] (triple (pos 0) 1 0 ∷ []) ∷ []

-- characters that layers style have the id of their style; ids of styles count from 2
pub record StylesOfLayers : Type 0 where
  -- `bc` in `abcd`
  pub one : marked_layout (97 ∷ 98 ∷ 99 ∷ 100 ∷ []) (region_to 0 0) [] ((None ∷ Some 2 ∷ Some 2 ∷ None ∷ []) ∷ []) ≡
      styled_line (Some 1) (97 ∷ 98 ∷ 99 ∷ 100 ∷ []) (0 ∷ []) (triple (pos 1) 2 2 ∷ []) ∷ []
  -- two layers with one style on one word show it twice
  pub twice : marked_layout (97 ∷ 98 ∷ []) (region_to 0 0) [] ((Some 2 ∷ Some 2 ∷ []) ∷ (Some 2 ∷ Some 2 ∷ []) ∷ []) ≡
      styled_line (Some 1) (97 ∷ 98 ∷ []) (0 ∷ []) (triple (pos 0) 2 2 ∷ triple (negsuc 1) 2 2 ∷ []) ∷ []
  -- `a`, LF and `b` have one style, the LF too
  pub feed : marked_layout (97 ∷ 10 ∷ 98 ∷ []) (region_to 0 0) [] ((Some 2 ∷ Some 2 ∷ Some 2 ∷ []) ∷ []) ≡
      styled_line (Some 1) (97 ∷ 10 ∷ []) (0 ∷ []) (triple (pos 0) 2 2 ∷ []) ∷ styled_line (Some 2) (98 ∷ []) [] (triple (pos 0) 1 2 ∷ []) ∷ []
  -- `b` and `c` have one style, and the text is cut in two: each piece has its part
  pub pieces : layout (97 ∷ 98 ∷ 99 ∷ []) cut_in_two (region_to 0 0 ∷ []) [] ((None ∷ Some 3 ∷ Some 3 ∷ []) ∷ []) ≡
      styled_line (Some 1) (97 ∷ 98 ∷ []) (0 ∷ []) (triple (pos 1) 1 3 ∷ []) ∷ styled_line None (99 ∷ []) [] (triple (pos 0) 1 3 ∷ []) ∷ []
  -- all of `abc` is selected, and `b` is found and has a style
  pub beside : marked_layout (97 ∷ 98 ∷ 99 ∷ []) (region_to 0 3) (record { start = 1; end = 2 } ∷ []) ((None ∷ Some 2 ∷ None ∷ []) ∷ []) ≡
      styled_line (Some 1) (97 ∷ 98 ∷ 99 ∷ []) (3 ∷ []) (triple (pos 0) 3 0 ∷ triple (negsuc 1) 1 1 ∷ triple (negsuc 0) 1 2 ∷ []) ∷ []
  -- of runs that start at one character that of the lesser id comes first, and of one id the shorter one
  pub order : marked_layout (97 ∷ 98 ∷ []) (region_to 0 0) []
      ((Some 3 ∷ None ∷ []) ∷ (Some 2 ∷ Some 2 ∷ []) ∷ (Some 2 ∷ None ∷ []) ∷ []) ≡
      styled_line (Some 1) (97 ∷ 98 ∷ []) (0 ∷ []) (triple (pos 0) 1 2 ∷ triple (negsuc 0) 2 2 ∷ triple (negsuc 1) 1 3 ∷ []) ∷ []
  -- layers without a style show nothing
  pub bare : marked_layout (97 ∷ 98 ∷ []) (region_to 0 0) [] (new_layers 2 2) ≡ shown_line (Some 1) (97 ∷ 98 ∷ []) (0 ∷ []) ∷ []

-- `aa bb-cc ddddddd`
abbrev pub words : List ℕ
words = 97 ∷ 97 ∷ 32 ∷ 98 ∷ 98 ∷ 45 ∷ 99 ∷ 99 ∷ 32 ∷ 100 ∷ 100 ∷ 100 ∷ 100 ∷ 100 ∷ 100 ∷ 100 ∷ []

-- it is laid out at width 5, with a caret at its end, and one at the end of the first piece, which is shown at the start of the next
pub record Wrapped : Type 0 where
  pub cut : layout words (wrapped_pieces 5 4 words) (map caret_of (3 ∷ 16 ∷ [])) [] [] ≡
      shown_line (Some 1) (97 ∷ 97 ∷ 32 ∷ []) [] ∷ shown_line None (98 ∷ 98 ∷ 45 ∷ 99 ∷ 99 ∷ 32 ∷ []) (0 ∷ []) ∷
      shown_line None (100 ∷ 100 ∷ 100 ∷ 100 ∷ 100 ∷ []) [] ∷ shown_line None (100 ∷ 100 ∷ []) (2 ∷ []) ∷ []
