-- What a layer shows are its longest runs of one style, and these make the layer again.
use Rattle.std.proofs.Common.{◌≡◌, ℕ, zero, suc, ◌+◌, ◌<◌, ◌≤◌, Bool, true, false, ◌&&◌, if◌then◌else◌, ◌==◌, List, [], ◌∷◌, length, map, Option, Some, None, refl, ap, ap₂, sym, ◌∙◌, arith}
use Rattle.std.specs.Prelude.{nat_le, nat_lt}
use Rattle.std.specs.List.{range_with_len}
use Rattle.std.proofs.lemmas.Bool.{eqb-true, eq-eqb}
use Rattle.std.proofs.lemmas.Bool.Decides.{nat_tests}
use Rattle.std.proofs.lemmas.List.{length-replicate}
use Rattle.plain_edits.specs.declared.style.Span.{Span}
use Rattle.plain_edits.specs.Styles.{Layer, covers, or_style, span_style}
use Rattle.span_runs.specs.Spans.{onto_spans, spans_from}
use Rattle.span_styles.specs.Layers.{unstyled}
use Rattle.span_styles.specs.Laws.{AreLongest, GoesOnOtherwise, SpansMakeTheirLayers}
use Rattle.span_styles.proofs.SpannedLemmas.{spanned_from-inside}

-- ---- the longest runs

AreLongest-earlier : (from to : ℕ) (spans : List Span) → to ≤ from → AreLongest from spans → AreLongest to spans
AreLongest-earlier from to [] up longest = tt
AreLongest-earlier from to (span ∷ spans) up longest = (omega (arith, longest.0), longest.1, longest.2, longest.3)

AreLongest-onto : (from style : ℕ) (spans : List Span) → AreLongest (from + 1) spans → AreLongest from (onto_spans from (Some style) spans)
AreLongest-onto from style [] longest = (omega arith, omega arith, tt, tt)
AreLongest-onto from style (next ∷ spans) longest =
    by (next.start == from + 1) (next.style == style) (eqb-true next.start (from + 1)) (eqb-true next.style style) (eq-eqb next.start (from + 1)) (eq-eqb next.style style)
  where
    otherwise : (spans : List Span) → GoesOnOtherwise next spans → next.style ≡ style → GoesOnOtherwise (record { start = from; end = next.end; style = style }) spans
    otherwise [] goes same = tt
    otherwise (span ∷ spans) goes same = λ meets is. goes meets (is ∙ sym same)

    by : (b c : Bool) → (b ≡ true → next.start ≡ from + 1) → (c ≡ true → next.style ≡ style) →
        (next.start ≡ from + 1 → b ≡ true) → (next.style ≡ style → c ≡ true) →
        AreLongest from (if b && c then record { start = from; end = next.end; style = style } ∷ spans else record { start = from; end = from + 1; style = style } ∷ next ∷ spans)
    by true true meets same is_met is_same = (omega arith, omega (arith, longest.0, longest.1), otherwise spans longest.2 (same refl), longest.3)
    by true false meets same is_met is_same = (omega arith, omega arith, λ at is. absurd (let no = is_same is in cc), longest)
    by false c meets same is_met is_same = (omega arith, omega arith, λ at is. absurd (let no = is_met at in cc), longest)

longest_from : (from : ℕ) (layer : Layer) → AreLongest from (spans_from from layer)
longest_from from [] = tt
longest_from from (None ∷ layer) = AreLongest-earlier (from + 1) from (spans_from (from + 1) layer) (omega arith) (longest_from (from + 1) layer)
longest_from from (Some style ∷ layer) = AreLongest-onto from style (spans_from (from + 1) layer) (longest_from (from + 1) layer)

-- ---- the styles that they give

covers_none : (span : Span) (index : ℕ) → index < span.start → covers span index ≡ false
covers_none span index left = by span.start span.end left
  where
    by : (start end : ℕ) → index < start → (nat_le start index && nat_lt index end) ≡ false
    by start end left = grind (arith, nat_tests)

span_style-left : (from : ℕ) (spans : List Span) (index : ℕ) → AreLongest from spans → index < from → span_style spans index ≡ None
span_style-left from [] index longest left = refl
span_style-left from (span ∷ spans) index longest left =
    ap₂ (λ style b. or_style style (if b then Some span.style else None))
    (span_style-left span.end spans index longest.3 (omega (arith, longest.0, longest.1)))
    (covers_none span index (omega (arith, longest.0)))

or_none : (style : Option ℕ) → or_style style None ≡ style
or_none None = refl
or_none (Some style) = refl

covers_at : (start end index : ℕ) → start ≤ index → index < end → (nat_le start index && nat_lt index end) ≡ true
covers_at start end index low high = grind (arith, nat_tests)

covers_past : (start end index : ℕ) → end ≤ index → (nat_le start index && nat_lt index end) ≡ false
covers_past start end index past = grind (arith, nat_tests)

covers_same : (start other end index : ℕ) → start ≤ index → other ≤ index → (nat_le start index && nat_lt index end) ≡ (nat_le other index && nat_lt index end)
covers_same start other end index low below = grind (arith, nat_tests)

-- at the character that is put before them, and right of it
onto_at : (from style : ℕ) (spans : List Span) → AreLongest (from + 1) spans → span_style (onto_spans from (Some style) spans) from ≡ Some style
onto_at from style [] longest = ap (λ b. if b then Some style else None) (covers_at from (from + 1) from (omega arith) (omega arith))
onto_at from style (next ∷ spans) longest = by (next.start == from + 1 && next.style == style)
  where
    by : (b : Bool) →
        span_style (if b then record { start = from; end = next.end; style = style } ∷ spans else record { start = from; end = from + 1; style = style } ∷ next ∷ spans) from ≡ Some style
    by true =
        ap₂ (λ s b. or_style s (if b then Some style else None)) (span_style-left next.end spans from longest.3 (omega (arith, longest.0, longest.1)))
        (covers_at from next.end from (omega arith) (omega (arith, longest.0, longest.1)))
    by false =
        ap₂ (λ s b. or_style s (if b then Some style else None)) (span_style-left (from + 1) (next ∷ spans) from longest (omega arith))
        (covers_at from (from + 1) from (omega arith) (omega arith))

onto_right : (from style : ℕ) (spans : List Span) (index : ℕ) → AreLongest (from + 1) spans → from < index →
    span_style (onto_spans from (Some style) spans) index ≡ span_style spans index
onto_right from style [] index longest right = ap (λ b. if b then Some style else None) (covers_past from (from + 1) index (omega arith))
onto_right from style (next ∷ spans) index longest right =
    by (next.start == from + 1) (next.style == style) (eqb-true next.start (from + 1)) (eqb-true next.style style)
  where
    past : span_style (record { start = from; end = from + 1; style = style } ∷ next ∷ spans) index ≡ span_style (next ∷ spans) index
    past =
        ap (λ b. or_style (span_style (next ∷ spans) index) (if b then Some style else None)) (covers_past from (from + 1) index (omega arith)) ∙
        or_none (span_style (next ∷ spans) index)

    by : (b c : Bool) → (b ≡ true → next.start ≡ from + 1) → (c ≡ true → next.style ≡ style) →
        span_style (if b && c then record { start = from; end = next.end; style = style } ∷ spans else record { start = from; end = from + 1; style = style } ∷ next ∷ spans) index ≡
        span_style (next ∷ spans) index
    by true true meets same =
        let met = meets refl in
        ap₂ (λ b s. or_style (span_style spans index) (if b then Some s else None))
        (covers_same from next.start next.end index (omega arith) (omega (arith, met))) (sym (same refl))
    by true false meets same = past
    by false c meets same = past

onto_any_right : (from : ℕ) (style : Option ℕ) (spans : List Span) (index : ℕ) → AreLongest (from + 1) spans → from < index →
    span_style (onto_spans from style spans) index ≡ span_style spans index
onto_any_right from None spans index longest right = refl
onto_any_right from (Some style) spans index longest right = onto_right from style spans index longest right

onto_any_at : (from : ℕ) (style : Option ℕ) (spans : List Span) → AreLongest (from + 1) spans → span_style (onto_spans from style spans) from ≡ style
onto_any_at from None spans longest = span_style-left (from + 1) spans from longest (omega arith)
onto_any_at from (Some style) spans longest = onto_at from style spans longest

map_right : (f g : ℕ → Option ℕ) (from n : ℕ) → ((index : ℕ) → from ≤ index → f index ≡ g index) → map f (range_with_len from n) ≡ map g (range_with_len from n)
map_right f g from zero same = refl
map_right f g from (suc n) same = ap₂ (λ s ss. s ∷ ss) (same from (omega arith)) (map_right f g (from + 1) n (λ index right. same index (omega arith)))

styles_back : (from : ℕ) (layer : Layer) → map (span_style (spans_from from layer)) (range_with_len from (length layer)) ≡ layer
styles_back from [] = refl
styles_back from (style ∷ layer) =
    let longest = longest_from (from + 1) layer in
    ap₂ (λ s ss. s ∷ ss) (onto_any_at from style (spans_from (from + 1) layer) longest)
    (map_right (span_style (onto_spans from style (spans_from (from + 1) layer))) (span_style (spans_from (from + 1) layer)) (from + 1) (length layer)
    (λ index right. onto_any_right from style (spans_from (from + 1) layer) index longest (omega arith)) ∙
    styles_back (from + 1) layer)

pub spans_make : SpansMakeTheirLayers
spans_make from layer = record {
  longest = longest_from from layer;
  back =
      spanned_from-inside (record { range = record { start = from; end = from + length layer }; spans = spans_from from layer }) from (unstyled (length layer)) (omega arith) (omega (arith, length-replicate {A = Option ℕ} (length layer) None)) ∙
      ap (λ n. map (span_style (spans_from from layer)) (range_with_len from n)) (length-replicate {A = Option ℕ} (length layer) None) ∙
      styles_back from layer;
}
