-- What the layer of marks shows after an edit.
use Rattle.std.proofs.Common.{◌≡◌, ℕ, zero, suc, ◌+◌, ◌-◌, ◌≤◌, List, [], ◌∷◌, ◌++◌, length, take, refl, ap, subst, sym, ◌∙◌, arith}
use Rattle.std.specs.declared.cmp.Ordering.TheVariants.{Greater}
use Rattle.std.specs.Ordering.{is_lt, nat_cmp, ordering_then}
use Rattle.std.specs.Cmp.{nat_cmp_is}
use Rattle.std.specs.Prelude.{if◌then◌else◌}
use Rattle.std.specs.List.{slice_range}
use Rattle.plain_text.specs.declared.run.Run.{Run}
use Rattle.plain_edits.specs.declared.style.Span.{Span}
use Rattle.plain_edits.specs.declared.delta.UnitDelta.{UnitDelta}
use Rattle.plain_edits.specs.Styles.{Layer}
use Rattle.span_runs.specs.Spans.{sorted_spans, spans_from, spans_of, with_span}
use Rattle.span_styles.specs.declared.spanned.SpannedRange.{SpannedRange}
use Rattle.span_styles.specs.Layers.{AreOver, LieIn, length_after, mapped_layers, new_layers, spanned_layers}
use Rattle.span_styles.proofs.ForCallers.{AreOver-mapped, AreOver-new, AreOver-spanned}
use Rattle.stale_spans.specs.Marks.{carried_marks, marks_of, numbered_spans}
use Rattle.stale_spans.proofs.PieceLemmas.{Rise, Rise-spans_from}

-- ---- spans that rise are in order

with_span-first : (from to : ℕ) (span : Span) (spans : List Span) → Rise from to (span ∷ spans) → with_span span spans ≡ span ∷ spans
with_span-first from to span [] rise = refl
with_span-first from to span (next ∷ spans) rise =
    ap (λ o. if is_lt (ordering_then (ordering_then o (nat_cmp next.style span.style)) (nat_cmp next.end span.end)) then next ∷ with_span span spans else span ∷ next ∷ spans)
    (sym (nat_cmp_is next.start span.start Greater (omega (arith, rise.1, rise.2.0))))

sorted_spans-rise : (from to : ℕ) (spans : List Span) → Rise from to spans → sorted_spans spans ≡ spans
sorted_spans-rise from to [] rise = refl
sorted_spans-rise from to (span ∷ spans) rise =
    ap (with_span span) (sorted_spans-rise span.end to spans rise.2) ∙ with_span-first from to span spans rise

take-past : {X : Type 0} (n : ℕ) (xs : List X) → length xs ≤ n → take n xs ≡ xs
take-past zero [] past = refl
take-past zero (x ∷ xs) past = absurd (omega (arith, past))
take-past (suc n) [] past = refl
take-past (suc n) (x ∷ xs) past = ap (λ ys. x ∷ ys) (take-past n xs (omega (arith, past)))

append-none : {X : Type 0} (xs : List X) → xs ++ [] ≡ xs
append-none [] = refl
append-none (x ∷ xs) = ap (λ ys. x ∷ ys) (append-none xs)

spans_of-one : (end : ℕ) (layer : Layer) → length layer ≤ end → spans_of (layer ∷ []) (record { start = 0; end = end }) ≡ spans_from 0 layer
spans_of-one end layer past =
    ap sorted_spans (append-none (spans_from 0 (slice_range layer 0 end)) ∙ ap (spans_from 0) whole) ∙
    sorted_spans-rise 0 (0 + length layer) (spans_from 0 layer) (Rise-spans_from 0 layer)
  where
    whole : slice_range layer 0 end ≡ layer
    whole = let all : end - 0 ≡ end = omega arith in ap (λ n. take n layer) all ∙ take-past end layer past

-- ---- the layer of marks

module _ (units : UnitDelta) (range : Run) (marks : List Span) where
  abbrev marked : SpannedRange
  marked = record { range = range; spans = marks }

  pub AreOver-marked : (bare layers : List Layer) → bare ≡ new_layers 1 units.base → layers ≡ spanned_layers bare 0 (marked ∷ []) → AreOver units.base layers
  AreOver-marked bare layers is_bare is_marked =
      subst (AreOver units.base) (sym (is_marked ∙ ap (λ ls. spanned_layers ls 0 (marked ∷ [])) is_bare))
      (AreOver-spanned units.base (new_layers 1 units.base) 0 (marked ∷ []) (AreOver-new 1 units.base) (omega arith))

  abbrev one_marked : List Layer
  one_marked = spanned_layers (new_layers 1 units.base) 0 (marked ∷ [])

  pub length-carried : length (carried_marks units range marks) ≡ length_after units
  length-carried = (AreOver-mapped units one_marked (AreOver-marked (new_layers 1 units.base) one_marked refl refl)).0

  pub spans_of-carried : (end : ℕ) (bare layers carried : List Layer) → bare ≡ new_layers 1 units.base →
      layers ≡ spanned_layers bare 0 (marked ∷ []) → carried ≡ mapped_layers units layers → length_after units ≤ end →
      spans_of carried (record { start = 0; end = end }) ≡ spans_from 0 (carried_marks units range marks)
  spans_of-carried end bare layers carried is_bare is_marked is_carried past =
      ap (λ ls. spans_of ls (record { start = 0; end = end }))
      (is_carried ∙ ap (mapped_layers units) (is_marked ∙ ap (λ ls. spanned_layers ls 0 (marked ∷ [])) is_bare)) ∙
      spans_of-one end (carried_marks units range marks) (omega (arith, length-carried, past))

  pub Rise-carried : Rise 0 (length_after units) (spans_from 0 (carried_marks units range marks))
  Rise-carried =
      let long : 0 + length (carried_marks units range marks) ≡ length_after units = omega (arith, length-carried) in
      subst (λ to. Rise 0 to (spans_from 0 (carried_marks units range marks))) long (Rise-spans_from 0 (carried_marks units range marks))

-- marks stand in their range
LieIn-numbered : (range : Run) (number : ℕ) (spans : List Span) → LieIn range spans → LieIn range (numbered_spans number spans)
LieIn-numbered range number [] within = tt
LieIn-numbered range number (span ∷ spans) within = (within.0, LieIn-numbered range (number + 1) spans within.1)

pub LieIn-marks_of : (range : Run) (spans : List Span) → range.start ≤ range.end → LieIn range spans → LieIn range (marks_of range spans)
LieIn-marks_of range spans ordered within = ((omega arith, ordered, omega arith), LieIn-numbered range 1 spans within)
