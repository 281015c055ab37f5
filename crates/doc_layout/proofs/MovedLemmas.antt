-- What a line reads, wherever its piece stands: two pieces of two texts that have the same characters, and on which the same is shown, are drawn alike
-- but for their numbers.
use Rattle.std.proofs.Common.{◌≡◌, ◌⊎◌, inl, inr, ℕ, zero, suc, ◌+◌, ◌-◌, ◌<◌, ◌≤◌, Bool, true, false, List, [], ◌∷◌, ◌++◌, length, take, drop, map, cond, Option, Some, None, refl, ap, ap₂, sym, subst, ◌∙◌, arith}
use Rattle.std.specs.Prelude.{◌&&◌, if◌then◌else◌, is_some, max, min, nat_lt, ◌==◌, slice_get, slice_range}
use Rattle.std.specs.List.{AllByRecursion, filter, flat_map, range_with_len}
use Rattle.std.specs.Ordering.{is_lt, nat_cmp, ordering_then}
use Rattle.std.specs.declared.cmp.Ordering.TheVariants.{Less, Equal, Greater}
use Rattle.std.proofs.lemmas.Bool.{cases_lt, eqb-true}
use Rattle.std.proofs.lemmas.Bool.Decides.{nat_tests}
use Rattle.std.proofs.lemmas.List.Concat.{flat_map-cons}
use Rattle.plain_text.specs.declared.run.Run.{Run}
use Rattle.plain_text.specs.declared.selection.Region.{Region}
use Rattle.plain_text.specs.Numbers.{has}
use Rattle.plain_text.specs.Text.{place_of}
use Rattle.plain_edits.specs.declared.style.Span.{Span}
use Rattle.plain_edits.specs.Styles.{Layer, style_at}
use Rattle.plain_screen.specs.declared.piece.Piece.{Piece}
use Rattle.plain_screen.specs.declared.screen.Line.{Line}
use Rattle.plain_screen.specs.Screen.{numbered}
use Rattle.plain_screen.specs.Touched.{is_same_but_number}
use Rattle.plain_screen.proofs.callers.SameLemmas.{is_same_line-Decides}
use Rattle.span_runs.specs.Spans.{onto_spans, sorted_spans, span_cmp, spans_from, spans_in, spans_of, with_span}
use Rattle.span_runs.specs.Triples.{triples_of}
use Rattle.line_render.specs.Rendered.{carets_of, cursor_of, cut_span, cut_spans, is_last_piece, is_selected, own_gaps, reaches_in, selected_layer, selected_spans, text_of_piece}
use Rattle.line_render.proofs.ForCallers.{runs_by, runs_by-same}
use Rattle.doc_layout.specs.Found.{found_spans, is_found}
use Rattle.doc_layout.specs.Laws.{AreShownAs, own_spans, styles_at}
use Rattle.doc_layout.specs.Layout.{layout_line, styled_spans}
use Rattle.doc_layout.proofs.CutLemmas.{cut_spans-append, runs-cut}
use Rattle.doc_layout.proofs.ReadLemmas.{filter-alike, map-alike}

-- ---- carets and selected characters

cursor-moved : (carets others : List ℕ) (start begin gaps : ℕ) (line : List ℕ) → ((k : ℕ) → k < gaps → has carets (start + k) ≡ has others (begin + k)) →
    cursor_of carets start gaps line ≡ cursor_of others begin gaps line
cursor-moved carets others start begin gaps line same =
    ap (map (place_of line))
    (filter-alike (λ gap. has carets (start + gap)) (λ gap. has others (begin + gap)) 0 gaps (λ k low high. same k (omega (arith, high))))

selected-moved : (regions others : List Region) (start begin len : ℕ) → ((k : ℕ) → k < len → is_selected regions (start + k) ≡ is_selected others (begin + k)) →
    selected_spans regions start len ≡ selected_spans others begin len
selected-moved regions others start begin len same =
    ap (spans_from 0)
    (map-alike (λ gap. if is_selected regions (start + gap) then Some 0 else None) (λ gap. if is_selected others (begin + gap) then Some 0 else None) 0 len
    (λ k low high. ap (λ b. if b then Some 0 else None) (same k (omega (arith, high)))))

-- ---- what a search found

found-at : (start end : ℕ) (results : List Run) (len : ℕ) → end ≤ len →
    cut_spans start end (found_spans results len) ≡ runs_by (λ k. if is_found results (start + k) then Some 1 else None) 0 (end - start)
found-at start end results len inside =
    runs-cut start end (λ index. if is_found results index then Some 1 else None) 0 len (omega arith) (omega (arith, inside))

-- ---- styles

style-past : (layer : Layer) (index : ℕ) → length layer ≤ index → style_at layer index ≡ None
style-past [] index past = refl
style-past (style ∷ layer) zero past = absurd (omega (arith, past))
style-past (style ∷ layer) (suc index) past = style-past layer index (omega (arith, past))

runs-none : (f : ℕ → Option ℕ) (from n : ℕ) → ((k : ℕ) → from ≤ k → f k ≡ None) → runs_by f from n ≡ []
runs-none f from zero none = refl
runs-none f from (suc n) none =
    ap₂ (λ s ss. onto_spans from s ss) (none from (omega arith)) (runs-none f (from + 1) n (λ k low. none k (omega (arith, low))))

-- the spans of the characters of a layer from one on, as many as there are
spans-some : (rest : Layer) (f : ℕ → Option ℕ) (from n : ℕ) → ((k : ℕ) → f (from + k) ≡ style_at rest k) → spans_from from (take n rest) ≡ runs_by f from n
spans-some rest f from zero same = refl
spans-some [] f from (suc n) same =
    sym (runs-none f from (suc n) (λ k low. let on : from + (k - from) ≡ k = omega (arith, low) in ap f (sym on) ∙ same (k - from)))
spans-some (style ∷ rest) f from (suc n) same =
    let here : from + 0 ≡ from = omega arith in
    ap₂ (λ s ss. onto_spans from s ss) (sym (same 0) ∙ ap f here)
    (spans-some rest f (from + 1) n (λ k. let on : from + 1 + k ≡ from + suc k = omega arith in ap f on ∙ same (suc k)))

style-drop : (n : ℕ) (layer : Layer) (k : ℕ) → style_at layer (n + k) ≡ style_at (drop n layer) k
style-drop zero layer k = let none : 0 + k ≡ k = omega arith in ap (style_at layer) none
style-drop (suc n) [] k = refl
style-drop (suc n) (style ∷ layer) k = let on : suc n + k ≡ suc (n + k) = omega arith in ap (style_at (style ∷ layer)) on ∙ style-drop n layer k

spans-at : (layer : Layer) (start end : ℕ) → spans_in (record { start = start; end = end }) layer ≡ runs_by (style_at layer) start (end - start)
spans-at layer start end = spans-some (drop start layer) (style_at layer) start (end - start) (λ k. style-drop start layer k)

-- the spans of a layer in a piece, counted from its start
layer-cut : (layer : Layer) (start end : ℕ) →
    cut_spans start end (spans_in (record { start = start; end = end }) layer) ≡ runs_by (λ k. style_at layer (start + k)) 0 (end - start)
layer-cut layer start end =
    ap (cut_spans start end) (spans-at layer start end) ∙
    runs-cut start end (style_at layer) start (end - start) (omega arith) (omega arith)

-- ---- spans in order, counted from a gap

module _ (start end : ℕ) where
  -- a span stands between the gaps
  abbrev Stands : Span → Type 0
  Stands span = (start ≤ span.start) × (span.start < span.end) × (span.end ≤ end)

  Stands-onto : (from : ℕ) (style : Option ℕ) (spans : List Span) → start ≤ from → from < end → AllByRecursion Stands spans →
      AllByRecursion Stands (onto_spans from style spans)
  Stands-onto from None spans low high all = all
  Stands-onto from (Some style) [] low high all = ((low, omega arith, omega (arith, high)), tt)
  Stands-onto from (Some style) (next ∷ spans) low high all = by (next.start == from + 1) (next.style == style) refl
    where
      by : (here alike : Bool) → (next.start == from + 1) ≡ here → AllByRecursion Stands
          (if here && alike then record { start = from; end = next.end; style = style } ∷ spans
          else record { start = from; end = from + 1; style = style } ∷ next ∷ spans)
      by true true is = ((low, omega (arith, all.0.1, eqb-true next.start (from + 1) is), all.0.2), all.1)
      by true false is = ((low, omega arith, omega (arith, high)), all)
      by false alike is = ((low, omega arith, omega (arith, high)), all)

  Stands-runs : (f : ℕ → Option ℕ) (from n : ℕ) → start ≤ from → from + n ≤ end → AllByRecursion Stands (runs_by f from n)
  Stands-runs f from zero low high = tt
  Stands-runs f from (suc n) low high =
      Stands-onto from (f from) (runs_by f (from + 1) n) low (omega (arith, high)) (Stands-runs f (from + 1) n (omega (arith, low)) (omega (arith, high)))

  Stands-append : (xs ys : List Span) → AllByRecursion Stands xs → AllByRecursion Stands ys → AllByRecursion Stands (xs ++ ys)
  Stands-append [] ys one other = other
  Stands-append (x ∷ xs) ys one other = (one.0, Stands-append xs ys one.1 other)

  -- one that does is cut to itself, counted from the first gap
  cut-one : (span : Span) (spans : List Span) → Stands span → cut_spans start end (span ∷ spans) ≡ cut_span start end span ∷ cut_spans start end spans
  cut-one span spans stands =
      let reaches : reaches_in start end span ≡ true =
      (let within : nat_lt (max span.start start) (min span.end end) ≡ true = grind (arith, nat_tests, stands.0, stands.1, stands.2) in within) in
      ap (λ (b : Bool). map (cut_span start end) (cond b (span ∷ filter (reaches_in start end) spans) (filter (reaches_in start end) spans))) reaches

  number-cut : (a b : ℕ) → start ≤ a → start ≤ b → nat_cmp (a - start) (b - start) ≡ nat_cmp a b
  number-cut a b one other =
      ap₂ (λ (less same : Bool). cond less Less (cond same Equal Greater))
      (let alike : nat_lt (a - start) (b - start) ≡ nat_lt a b = grind (arith, nat_tests, one, other) in alike)
      (let alike : (a - start == b - start) ≡ (a == b) = grind (arith, nat_tests, one, other) in alike)

  cut-start : (span : Span) → Stands span → max span.start start - start ≡ span.start - start
  cut-start span stands = let here : max span.start start - start ≡ span.start - start = omega (arith, stands.0) in here

  cut-end : (span : Span) → Stands span → min span.end end - start ≡ span.end - start
  cut-end span stands = let here : min span.end end - start ≡ span.end - start = omega (arith, stands.2) in here

  order-cut : (a b : Span) → Stands a → Stands b → span_cmp (cut_span start end a) (cut_span start end b) ≡ span_cmp a b
  order-cut a b one other =
      ap₂ (λ s e. ordering_then (ordering_then s (nat_cmp a.style b.style)) e)
      (ap₂ nat_cmp (cut-start a one) (cut-start b other) ∙ number-cut a.start b.start one.0 other.0)
      (ap₂ nat_cmp (cut-end a one) (cut-end b other) ∙ number-cut a.end b.end (omega (arith, one.0, one.1)) (omega (arith, other.0, other.1)))

  with-cut : (span : Span) (spans : List Span) → Stands span → AllByRecursion Stands spans →
      (cut_spans start end (with_span span spans) ≡ with_span (cut_span start end span) (cut_spans start end spans)) × AllByRecursion Stands (with_span span spans)
  with-cut span [] stands all = (cut-one span [] stands, (stands, tt))
  with-cut span (first ∷ spans) stands all =
      let later = with-cut span spans stands all.1 in
      by (is_lt (span_cmp first span)) (ap is_lt (order-cut first span all.0 stands)) later.0 later.1
    where
      by : (b : Bool) → is_lt (span_cmp (cut_span start end first) (cut_span start end span)) ≡ b →
          cut_spans start end (with_span span spans) ≡ with_span (cut_span start end span) (cut_spans start end spans) → AllByRecursion Stands (with_span span spans) →
          (cut_spans start end (if b then first ∷ with_span span spans else span ∷ first ∷ spans) ≡
          with_span (cut_span start end span) (cut_spans start end (first ∷ spans))) ×
          AllByRecursion Stands (if b then first ∷ with_span span spans else span ∷ first ∷ spans)
      by true is rest stand = (
        cut-one first (with_span span spans) all.0 ∙ ap (λ ss. cut_span start end first ∷ ss) rest ∙
            sym (ap (with_span (cut_span start end span)) (cut-one first spans all.0) ∙
            ap (λ (b : Bool). if b then cut_span start end first ∷ with_span (cut_span start end span) (cut_spans start end spans)
            else cut_span start end span ∷ cut_span start end first ∷ cut_spans start end spans) is),
        (all.0, stand),
      )
      by false is rest stand = (
        cut-one span (first ∷ spans) stands ∙ ap (λ ss. cut_span start end span ∷ ss) (cut-one first spans all.0) ∙
            sym (ap (with_span (cut_span start end span)) (cut-one first spans all.0) ∙
            ap (λ (b : Bool). if b then cut_span start end first ∷ with_span (cut_span start end span) (cut_spans start end spans)
            else cut_span start end span ∷ cut_span start end first ∷ cut_spans start end spans) is),
        (stands, all),
      )

  sorted-cut : (spans : List Span) → AllByRecursion Stands spans →
      (cut_spans start end (sorted_spans spans) ≡ sorted_spans (cut_spans start end spans)) × AllByRecursion Stands (sorted_spans spans)
  sorted-cut [] all = (refl, tt)
  sorted-cut (span ∷ spans) all =
      let later = sorted-cut spans all.1 in
      let here = with-cut span (sorted_spans spans) all.0 later.1 in (
        here.0 ∙ ap (with_span (cut_span start end span)) later.0 ∙ ap sorted_spans (sym (cut-one span spans all.0)),
        here.1,
      )

  -- the spans of layers in a piece, counted from its start
  layers-cut : (layers : List Layer) → (cut_spans start end (flat_map (spans_in (record { start = start; end = end })) layers) ≡
      flat_map (λ layer. runs_by (λ k. style_at layer (start + k)) 0 (end - start)) layers) ×
      AllByRecursion Stands (flat_map (spans_in (record { start = start; end = end })) layers)
  layers-cut [] = (refl, tt)
  layers-cut (layer ∷ layers) =
      let later = layers-cut layers in
      let range : Run = record { start = start; end = end } in
      let own : AllByRecursion Stands (runs_by (style_at layer) start (end - start)) = elim (cases_lt end start) [
        | inl none ↦ subst (λ n. AllByRecursion Stands (runs_by (style_at layer) start n)) (let few : 0 ≡ end - start = omega (arith, none) in few) tt
        | inr some ↦ Stands-runs (style_at layer) start (end - start) (omega arith) (omega (arith, some))
      ] in (
        ap (cut_spans start end) (flat_map-cons (spans_in range) layer layers) ∙
            cut_spans-append start end (spans_in range layer) (flat_map (spans_in range) layers) ∙
            ap₂ (λ (xs ys : List Span). xs ++ ys) (layer-cut layer start end) later.0 ∙
            sym (flat_map-cons (λ l. runs_by (λ k. style_at l (start + k)) 0 (end - start)) layer layers),
        subst (AllByRecursion Stands) (sym (flat_map-cons (spans_in range) layer layers))
            (Stands-append (spans_in range layer) (flat_map (spans_in range) layers)
            (subst (AllByRecursion Stands) (sym (spans-at layer start end)) own) later.1),
      )

  -- cut to the piece they are in order as before
  pub styled-cut : (layers : List Layer) → cut_spans start end (spans_of layers (record { start = start; end = end })) ≡
      sorted_spans (cut_spans start end (flat_map (spans_in (record { start = start; end = end })) layers))
  styled-cut layers = (sorted-cut (flat_map (spans_in (record { start = start; end = end })) layers) (layers-cut layers).1).0

-- the same styles of so many characters make the same spans
styles-alike : (layers styles : List Layer) (start begin len : ℕ) → length layers ≡ length styles → ((k : ℕ) → k < len → styles_at layers (start + k) ≡ styles_at styles (begin + k)) →
    flat_map (λ layer. runs_by (λ k. style_at layer (start + k)) 0 len) layers ≡ flat_map (λ layer. runs_by (λ k. style_at layer (begin + k)) 0 len) styles
styles-alike [] [] start begin len long same = refl
styles-alike [] (style ∷ styles) start begin len long same = absurd (omega (arith, long))
styles-alike (layer ∷ layers) [] start begin len long same = absurd (omega (arith, long))
styles-alike (layer ∷ layers) (style ∷ styles) start begin len long same =
    flat_map-cons (λ l. runs_by (λ k. style_at l (start + k)) 0 len) layer layers ∙
    ap₂ (λ (xs ys : List Span). xs ++ ys)
    (runs_by-same (λ k. style_at layer (start + k)) (λ k. style_at style (begin + k)) 0 len
    (λ k low high. ap (λ ss. first_of ss) (same k (omega (arith, high)))))
    (styles-alike layers styles start begin len (omega (arith, long)) (λ k less. ap (drop 1) (same k less))) ∙
    sym (flat_map-cons (λ l. runs_by (λ k. style_at l (begin + k)) 0 len) style styles)
  where
    first_of : List (Option ℕ) → Option ℕ
    first_of [] = None
    first_of (style ∷ others) = style

-- THE SAME STYLES make the same spans, counted from the starts of both pieces
pub own_spans-alike : (layers styles : List Layer) (piece twin : Piece) → piece.end - piece.start ≡ twin.end - twin.start → length layers ≡ length styles →
    ((k : ℕ) → k < piece.end - piece.start → styles_at layers (piece.start + k) ≡ styles_at styles (twin.start + k)) →
    own_spans layers piece ≡ own_spans styles twin
own_spans-alike layers styles piece twin long as_many same =
    (layers-cut piece.start piece.end layers).0 ∙ styles-alike layers styles piece.start twin.start (piece.end - piece.start) as_many same ∙
    ap (λ (n : ℕ). flat_map (λ layer. runs_by (λ k. style_at layer (twin.start + k)) 0 n) styles) long ∙ sym (layers-cut twin.start twin.end styles).0

-- ---- two lines

same-parts : (line other : Line) (a b : Option ℕ) → line.ln ≡ a → other.ln ≡ b → is_some a ≡ is_some b → line.text ≡ other.text → line.cursor ≡ other.cursor →
    line.styles ≡ other.styles → numbered a 0 line ≡ numbered b 0 other
same-parts line other None None one two some text cursor styles = rw (text, one, two, cursor, styles) refl
same-parts line other None (Some n) one two some text cursor styles = absurd cc
same-parts line other (Some n) None one two some text cursor styles = absurd cc
same-parts line other (Some n) (Some m) one two some text cursor styles = rw (text, cursor, styles) refl

-- A LINE READS no more than its own characters and what is shown on them, wherever its piece stands
pub line-moved : (text other : List ℕ) (piece twin : Piece) (regions others : List Region) (results founds : List Run) (layers styles : List Layer) →
    AreShownAs text other piece twin regions others results founds layers styles →
    is_same_but_number (layout_line text regions results layers piece) (layout_line other others founds styles twin) ≡ true
line-moved text other piece twin regions others results founds layers styles same =
    (is_same_line-Decides (numbered piece.ln 0 (layout_line text regions results layers piece)) (numbered twin.ln 0 (layout_line other others founds styles twin))).1
    (same-parts (layout_line text regions results layers piece) (layout_line other others founds styles twin) piece.ln twin.ln refl refl same.numbered
    same.characters cursor_same styles_same)
  where
    line : List ℕ
    line = text_of_piece text piece

    len : ℕ
    len = piece.end - piece.start

    cursor_same : cursor_of (carets_of regions) piece.start (own_gaps (is_last_piece text piece) (length line)) line ≡
        cursor_of (carets_of others) twin.start (own_gaps (is_last_piece other twin) (length (text_of_piece other twin))) (text_of_piece other twin)
    cursor_same =
        cursor-moved (carets_of regions) (carets_of others) piece.start twin.start (own_gaps (is_last_piece text piece) (length line)) line same.carets ∙
        ap₂ (λ (b : Bool) (l : List ℕ). cursor_of (carets_of others) twin.start (own_gaps b (length l)) l) same.last same.characters

    cuts_same : cut_spans piece.start piece.end (found_spans results (length text) ++ styled_spans layers piece) ≡
        cut_spans twin.start twin.end (found_spans founds (length other) ++ styled_spans styles twin)
    cuts_same =
        cut_spans-append piece.start piece.end (found_spans results (length text)) (styled_spans layers piece) ∙
        ap₂ (λ (xs ys : List Span). xs ++ ys)
        (found-at piece.start piece.end results (length text) same.inside ∙
        runs_by-same (λ k. if is_found results (piece.start + k) then Some 1 else None) (λ k. if is_found founds (twin.start + k) then Some 1 else None) 0 len
        (λ k low high. ap (λ (b : Bool). if b then Some 1 else None) (same.found k (omega (arith, high)))) ∙
        ap (runs_by (λ k. if is_found founds (twin.start + k) then Some 1 else None) 0) same.long ∙
        sym (found-at twin.start twin.end founds (length other) same.too))
        (styled-cut piece.start piece.end layers ∙ ap sorted_spans same.styled ∙ sym (styled-cut twin.start twin.end styles)) ∙
        sym (cut_spans-append twin.start twin.end (found_spans founds (length other)) (styled_spans styles twin))

    styles_same : triples_of line (selected_spans regions piece.start (length line) ++
        cut_spans piece.start piece.end (found_spans results (length text) ++ styled_spans layers piece)) ≡
        triples_of (text_of_piece other twin) (selected_spans others twin.start (length (text_of_piece other twin)) ++
        cut_spans twin.start twin.end (found_spans founds (length other) ++ styled_spans styles twin))
    styles_same =
        ap₂ (λ (xs ys : List Span). triples_of line (xs ++ ys)) (selected-moved regions others piece.start twin.start (length line) same.selected) cuts_same ∙
        ap (λ (l : List ℕ). triples_of l (selected_spans others twin.start (length l) ++
        cut_spans twin.start twin.end (found_spans founds (length other) ++ styled_spans styles twin))) same.characters
