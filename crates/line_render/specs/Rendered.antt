-- A rendered line: what a front end is shown of one piece of a text.
use Rattle.std.specs.Prelude.{ℕ, ◌+◌, ◌-◌, min, max, Bool, false, ◌&&◌, not, if◌then◌else◌, nat_lt, nat_le, ◌==◌, List, [], ◌∷◌, ◌++◌, length, map, Some, None, slice_range}
use Rattle.std.specs.List.{filter, list_any, range_with_len}
use Rattle.plain_text.specs.declared.selection.Region.{Region}
use Rattle.plain_text.specs.Numbers.{has}
use Rattle.plain_text.specs.Text.{place_of}
use Rattle.plain_edits.specs.declared.style.Span.{Span}
use Rattle.plain_edits.specs.Styles.{Layer}
use Rattle.plain_screen.specs.declared.piece.Piece.{Piece}
use Rattle.plain_screen.specs.declared.screen.Line.{Line}
use Rattle.selection_core.specs.Selection.{lesser_end, greater_end}
use Rattle.span_runs.specs.Spans.{spans_from}
use Rattle.span_runs.specs.Triples.{triples_of}

-- the carets of regions
abbrev pub carets_of : List Region → List ℕ
carets_of regions = map (λ region. region.caret) regions

-- how many gaps of a piece of so many characters are its own: the gap at its end is the next piece's, where there is one
abbrev pub own_gaps : Bool → ℕ → ℕ
own_gaps is_last len = if is_last then len + 1 else len

-- the byte offsets of the carets in a line that starts at gap `start` and has `gaps` gaps of its own: each once, and they rise
abbrev pub cursor_of : List ℕ → ℕ → ℕ → List ℕ → List ℕ
cursor_of carets start gaps line = map (place_of line) (filter (λ gap. has carets (start + gap)) (range_with_len 0 gaps))

-- whether the character with this index is selected: it stands between the ends of some region
abbrev pub is_selected : List Region → ℕ → Bool
is_selected regions index = list_any (λ region. nat_le (lesser_end region) index && nat_lt index (greater_end region)) regions

-- of so many characters from a gap on, those that are selected, as a layer: selected characters have the id 0
abbrev pub selected_layer : List Region → ℕ → ℕ → Layer
selected_layer regions start len = map (λ gap. if is_selected regions (start + gap) then Some 0 else None) (range_with_len 0 len)

-- the maximal runs of selected characters among these, counted from the first
abbrev pub selected_spans : List Region → ℕ → ℕ → List Span
selected_spans regions start len = spans_from 0 (selected_layer regions start len)

-- whether some character of a span stands between two gaps, and the span as far as it does, counted from the first gap
abbrev pub reaches_in : ℕ → ℕ → Span → Bool
reaches_in start end span = nat_lt (max span.start start) (min span.end end)

abbrev pub cut_span : ℕ → ℕ → Span → Span
cut_span start end span = record { start = max span.start start - start; end = min span.end end - start; style = span.style }

-- spans as far as they stand between two gaps
abbrev pub cut_spans : ℕ → ℕ → List Span → List Span
cut_spans start end spans = map (cut_span start end) (filter (reaches_in start end) spans)

-- A LINE RENDERED from the characters of its piece, with the regions and the spans of the whole text
abbrev pub rendered_piece : List ℕ → Piece → Bool → List Region → List Span → Line
rendered_piece line piece is_last regions spans =
    record {
      text = line;
      ln = piece.ln;
      cursor = cursor_of (carets_of regions) piece.start (own_gaps is_last (length line)) line;
      styles = triples_of line (selected_spans regions piece.start (length line) ++ cut_spans piece.start piece.end spans);
    }

-- whether a text ends in LF
abbrev pub ends_in_feed : List ℕ → Bool
ends_in_feed [] = false
ends_in_feed (c ∷ []) = c == 10
ends_in_feed (c ∷ d ∷ text) = ends_in_feed (d ∷ text)

-- the characters of a piece
abbrev pub text_of_piece : List ℕ → Piece → List ℕ
text_of_piece text piece = slice_range text piece.start piece.end

-- whether a piece is the last of its text: it goes up to the end, and no line begins there
abbrev pub is_last_piece : List ℕ → Piece → Bool
is_last_piece text piece = piece.end == length text && not (ends_in_feed (text_of_piece text piece))

-- A LINE RENDERED from the whole text
abbrev pub rendered : List ℕ → Piece → List Region → List Span → Line
rendered text piece regions spans = rendered_piece (text_of_piece text piece) piece (is_last_piece text piece) regions spans
