-- What a line reads: lines before that of a gap are made of what stands left of the gap.
use Rattle.std.proofs.Common.{◌≡◌, ℕ, zero, suc, ◌+◌, ◌-◌, ◌<◌, ◌≤◌, Bool, true, false, List, [], ◌∷◌, ◌++◌, length, take, drop, map, cond, Some, None, refl, ap, ap₂, sym, ◌∙◌, arith, inl, inr}
use Rattle.std.specs.Prelude.{slice_get, slice_range, if◌then◌else◌, ◌==◌, ◌&&◌, not}
use Rattle.std.specs.List.{filter, range_with_len}
use Rattle.std.proofs.lemmas.Bool.{cases_lt}
use Rattle.std.proofs.lemmas.List.{drop-take, take-map, take-take}
use Rattle.plain_text.specs.declared.run.Run.{Run}
use Rattle.plain_text.specs.declared.selection.Region.{Region}
use Rattle.plain_text.specs.Numbers.{has}
use Rattle.plain_text.specs.Text.{place_of}
use Rattle.plain_edits.specs.declared.style.Span.{Span}
use Rattle.plain_edits.specs.Styles.{Layer}
use Rattle.plain_screen.specs.declared.piece.Piece.{Piece}
use Rattle.plain_screen.specs.declared.screen.Line.{Line}
use Rattle.plain_screen.specs.View.{ArePieces, layout_line_of}
use Rattle.plain_screen.proofs.callers.OwnLemmas.{get_piece, starts-rise}
use Rattle.plain_screen.proofs.callers.ViewLemmas.{ArePieces-starts, IsLayoutLineOf-layout_line_of}
use Rattle.span_runs.specs.Spans.{spans_from, spans_of}
use Rattle.span_runs.specs.Triples.{triples_of}
use Rattle.line_render.specs.Rendered.{carets_of, cursor_of, cut_spans, ends_in_feed, is_last_piece, is_selected, own_gaps, rendered, rendered_piece, selected_layer, selected_spans, text_of_piece}
use Rattle.line_render.proofs.ForCallers.{length-text_of_piece, own-layout_line_of, piece-inside}
use Rattle.doc_layout.specs.Found.{found_spans}
use Rattle.doc_layout.specs.Laws.{AreShownAlike}
use Rattle.doc_layout.specs.Layout.{layout, layout_line, styled_spans}
use Rattle.doc_layout.proofs.CutLemmas.{cut_spans-append, found-cut}

-- the first so many items are made alike
take-alike : {X Y : Type 0} (f g : X → Y) (xs : List X) (n : ℕ) → ((i : ℕ) (x : X) → i < n → slice_get xs i ≡ Some x → f x ≡ g x) →
    take n (map f xs) ≡ take n (map g xs)
take-alike f g xs zero same = refl
take-alike f g [] (suc n) same = refl
take-alike f g (x ∷ xs) (suc n) same =
    ap₂ (λ y ys. y ∷ ys) (same 0 x (omega arith) refl) (take-alike f g xs n (λ i y below is. same (suc i) y (omega arith) is))

own_gaps-enough : (is_last : Bool) (len : ℕ) → len ≤ own_gaps is_last len
own_gaps-enough true len = omega arith
own_gaps-enough false len = omega arith

-- a piece before the one of a gap ends by the gap
ends-before : (text : List ℕ) (pieces : List Piece) (at index : ℕ) (piece : Piece) → ArePieces text pieces → index < layout_line_of pieces at →
    slice_get pieces index ≡ Some piece → (piece.start ≤ piece.end) × (piece.end ≤ at)
ends-before text pieces at index piece are before is =
    let within = piece-inside text pieces index piece are is in
    let own = IsLayoutLineOf-layout_line_of text pieces at are in
    let found = get_piece pieces (layout_line_of pieces at) own.inside in
    let low : piece.start ≤ at =
    omega (arith, own.by_then found.0 found.1, starts-rise 0 index (layout_line_of pieces at) pieces piece found.0 (ArePieces-starts text pieces are).0 before is found.1) in (
      within.0,
      elim (cases_lt at piece.end) [
        | inl inside ↦
            let len = length-text_of_piece text piece within.0 within.1 in
            let gaps = own_gaps-enough (is_last_piece text piece) (length (text_of_piece text piece)) in
            let here = (own-layout_line_of text pieces index piece at are is (omega (arith, within.1))).0 (low, omega (arith, len, gaps, inside, within.0)) in
            absurd (omega (arith, here, before))
        | inr past ↦ past
      ],
    )

-- LINES BEFORE THAT OF A GAP are the same where pieces that end by the gap are drawn alike
lines-before : (text : List ℕ) (pieces : List Piece) (at : ℕ) (f g : Piece → Line) → ArePieces text pieces →
    ((piece : Piece) → piece.start ≤ piece.end → piece.end ≤ at → f piece ≡ g piece) →
    take (layout_line_of pieces at) (map f pieces) ≡ take (layout_line_of pieces at) (map g pieces)
lines-before text pieces at f g are same =
    take-alike f g pieces (layout_line_of pieces at)
    (λ index piece before is. let ends = ends-before text pieces at index piece are before is in same piece ends.0 ends.1)

pub styles-read : (text : List ℕ) (pieces : List Piece) (regions : List Region) (results : List Run) (layers styles : List Layer) (at : ℕ) →
    ArePieces text pieces → ((range : Run) → range.end ≤ at → spans_of layers range ≡ spans_of styles range) →
    take (layout_line_of pieces at) (layout text pieces regions results layers) ≡ take (layout_line_of pieces at) (layout text pieces regions results styles)
styles-read text pieces regions results layers styles at are same =
    lines-before text pieces at (layout_line text regions results layers) (layout_line text regions results styles) are
    (λ piece ordered before.
    ap (λ spans. rendered text piece regions (found_spans results (length text) ++ spans)) (same (record { start = piece.start; end = piece.end }) before))

-- ---- regions

pub filter-alike : (p q : ℕ → Bool) (from n : ℕ) → ((k : ℕ) → from ≤ k → k < from + n → p k ≡ q k) → filter p (range_with_len from n) ≡ filter q (range_with_len from n)
filter-alike p q from zero same = refl
filter-alike p q from (suc n) same =
    ap₂ (λ b rest. cond b (from ∷ rest) rest) (same from (omega arith) (omega arith))
    (filter-alike p q (from + 1) n (λ k low high. same k (omega arith) (omega arith)))

pub map-alike : {X : Type 0} (f g : ℕ → X) (from n : ℕ) → ((k : ℕ) → from ≤ k → k < from + n → f k ≡ g k) → map f (range_with_len from n) ≡ map g (range_with_len from n)
map-alike f g from zero same = refl
map-alike f g from (suc n) same =
    ap₂ (λ y ys. y ∷ ys) (same from (omega arith) (omega arith)) (map-alike f g (from + 1) n (λ k low high. same k (omega arith) (omega arith)))

own_gaps-few : (is_last : Bool) (len : ℕ) → own_gaps is_last len ≤ len + 1
own_gaps-few true len = omega arith
own_gaps-few false len = omega arith

-- the line of a piece, by its carets and its selected characters
abbrev line_by : List ℕ → Piece → List Span → List ℕ → Layer → Line
line_by text piece spans cursor layer =
    record {
      text = text_of_piece text piece;
      ln = piece.ln;
      cursor = cursor;
      styles = triples_of (text_of_piece text piece) (spans_from 0 layer ++ cut_spans piece.start piece.end spans);
    }

rendered-alike : (text : List ℕ) (regions others : List Region) (spans : List Span) (piece : Piece) (at : ℕ) → piece.start ≤ piece.end → piece.end ≤ length text →
    piece.end ≤ at → ((gap : ℕ) → gap ≤ at → has (carets_of regions) gap ≡ has (carets_of others) gap) →
    ((index : ℕ) → index < at → is_selected regions index ≡ is_selected others index) →
    rendered text piece regions spans ≡ rendered text piece others spans
rendered-alike text regions others spans piece at ordered inside before carets selected =
    ap₂ (line_by text piece spans) (ap (map (place_of line)) cursors) layers
  where
    line : List ℕ
    line = text_of_piece text piece

    len : length line ≡ piece.end - piece.start
    len = length-text_of_piece text piece ordered inside

    gaps : ℕ
    gaps = own_gaps (is_last_piece text piece) (length line)

    cursors : filter (λ gap. has (carets_of regions) (piece.start + gap)) (range_with_len 0 gaps) ≡ filter (λ gap. has (carets_of others) (piece.start + gap)) (range_with_len 0 gaps)
    cursors =
        filter-alike (λ gap. has (carets_of regions) (piece.start + gap)) (λ gap. has (carets_of others) (piece.start + gap)) 0 gaps
        (λ k low high. carets (piece.start + k) (omega (arith, len, own_gaps-few (is_last_piece text piece) (length line), high)))

    layers : selected_layer regions piece.start (length line) ≡ selected_layer others piece.start (length line)
    layers =
        map-alike (λ gap. if is_selected regions (piece.start + gap) then Some 0 else None) (λ gap. if is_selected others (piece.start + gap) then Some 0 else None) 0
        (length line) (λ k low high. ap (λ b. if b then Some 0 else None) (selected (piece.start + k) (omega (arith, len, high))))

pub regions-read : (text : List ℕ) (pieces : List Piece) (regions others : List Region) (results : List Run) (layers : List Layer) (at : ℕ) → ArePieces text pieces →
    ((gap : ℕ) → gap ≤ at → has (carets_of regions) gap ≡ has (carets_of others) gap) →
    ((index : ℕ) → index < at → is_selected regions index ≡ is_selected others index) →
    take (layout_line_of pieces at) (layout text pieces regions results layers) ≡ take (layout_line_of pieces at) (layout text pieces others results layers)
regions-read text pieces regions others results layers at are carets selected =
    take-alike (layout_line text regions results layers) (layout_line text others results layers) pieces (layout_line_of pieces at)
    (λ index piece before is.
    let ends = ends-before text pieces at index piece are before is in
    rendered-alike text regions others (found_spans results (length text) ++ styled_spans layers piece) piece at ends.0 (piece-inside text pieces index piece are is).1
    ends.1 carets selected)

-- ---- two texts

-- what stands between two gaps is the same where the fronts are
pub slice-alike : {X : Type 0} (at start end : ℕ) (xs ys : List X) → take at xs ≡ take at ys → end ≤ at → slice_range xs start end ≡ slice_range ys start end
slice-alike {X} at start end xs ys same before = elim (cases_lt end start) [
  | inl none ↦
      let few : end - start ≡ 0 = omega (arith, none) in
      ap (λ (n : ℕ). take n (drop start xs)) few ∙ sym (ap (λ (n : ℕ). take n (drop start ys)) few)
  | inr ordered ↦ sym (front xs ordered) ∙ ap (drop start) (sym (take-take end at xs before) ∙ ap (take end) same ∙ take-take end at ys before) ∙ front ys ordered
]
  where
    front : (zs : List X) → start ≤ end → drop start (take end zs) ≡ slice_range zs start end
    front zs ordered =
        let sum : start + (end - start) ≡ end = omega (arith, ordered) in
        ap (λ (n : ℕ). drop start (take n zs)) (sym sum) ∙ drop-take start (end - start) zs

-- a line rendered, by its characters and the length of the text
abbrev rendered_by : Piece → List Region → List Span → List ℕ → ℕ → Line
rendered_by piece regions spans line len = rendered_piece line piece (piece.end == len && not (ends_in_feed line)) regions spans

-- a line rendered, by its cut spans
abbrev rendered_with : List ℕ → Piece → List Region → List Span → Line
rendered_with text piece regions cuts =
    record {
      text = text_of_piece text piece;
      ln = piece.ln;
      cursor =
          cursor_of (carets_of regions) piece.start (own_gaps (is_last_piece text piece) (length (text_of_piece text piece))) (text_of_piece text piece);
      styles = triples_of (text_of_piece text piece) (selected_spans regions piece.start (length (text_of_piece text piece)) ++ cuts);
    }

line-alike : (text other : List ℕ) (regions others : List Region) (results founds : List Run) (layers styles : List Layer) (at : ℕ) (piece : Piece) →
    AreShownAlike at text other regions others results founds layers styles → piece.start ≤ piece.end → piece.end ≤ length text → piece.end ≤ at →
    layout_line text regions results layers piece ≡ layout_line other others founds styles piece
line-alike text other regions others results founds layers styles at piece alike ordered inside before =
    rendered-alike text regions others (found_spans results (length text) ++ styled_spans layers piece) piece at ordered inside before alike.carets alike.selected ∙
    ap (rendered_with text piece others) cuts ∙
    ap₂ (rendered_by piece others (found_spans founds (length other) ++ styled_spans styles piece))
    (slice-alike at piece.start piece.end text other alike.characters before) alike.long
  where
    cut : List Span → List Span
    cut = cut_spans piece.start piece.end

    cuts : cut (found_spans results (length text) ++ styled_spans layers piece) ≡ cut (found_spans founds (length other) ++ styled_spans styles piece)
    cuts =
        cut_spans-append piece.start piece.end (found_spans results (length text)) (styled_spans layers piece) ∙
        ap₂ (λ (xs ys : List Span). xs ++ ys)
        (found-cut piece.start piece.end results founds (length text) (length other) inside (omega (arith, inside, alike.long))
        (λ index low high. alike.found index (omega (arith, high, before))))
        (ap cut (alike.styled (record { start = piece.start; end = piece.end }) before)) ∙
        sym (cut_spans-append piece.start piece.end (found_spans founds (length other)) (styled_spans styles piece))

pub lines-read : (text other : List ℕ) (pieces parts : List Piece) (regions others : List Region) (results founds : List Run) (layers styles : List Layer) (at line : ℕ) →
    ArePieces text pieces → AreShownAlike at text other regions others results founds layers styles → take line pieces ≡ take line parts →
    line ≤ layout_line_of pieces at →
    take line (layout text pieces regions results layers) ≡ take line (layout other parts others founds styles)
lines-read text other pieces parts regions others results founds layers styles at line are alike same low =
    take-alike (layout_line text regions results layers) (layout_line other others founds styles) pieces line
    (λ index piece before is.
    let ends = ends-before text pieces at index piece are (omega (arith, before, low)) is in
    line-alike text other regions others results founds layers styles at piece alike ends.0 (piece-inside text pieces index piece are is).1 ends.1) ∙
    take-map (layout_line other others founds styles) line pieces ∙ ap (map (layout_line other others founds styles)) same ∙
    sym (take-map (layout_line other others founds styles) line parts)
