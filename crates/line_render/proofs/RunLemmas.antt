-- Maximal runs of one style, of a layer that is given by a rule.
use Rattle.std.proofs.Common.{◌≡◌, ℕ, zero, suc, Bool, true, false, ◌+◌, ◌<◌, ◌≤◌, List, [], ◌∷◌, map, Option, Some, None, refl, ap, ap₂, sym, ◌∙◌, arith}
use Rattle.std.specs.Prelude.{◌&&◌, ◌==◌, if◌then◌else◌}
use Rattle.std.specs.List.{range_with_len}
use Rattle.std.proofs.lemmas.Bool.{eq-eqb}
use Rattle.plain_edits.specs.declared.style.Span.{Span}
use Rattle.span_runs.specs.Spans.{onto_spans, spans_from}
use Rattle.line_render.specs.Inner.{onto_run, styled_span}

-- the runs of so many characters from one on
abbrev pub runs_by : (ℕ → Option ℕ) → ℕ → ℕ → List Span
runs_by styles from n = spans_from from (map styles (range_with_len from n))

pub runs_by-same : (f g : ℕ → Option ℕ) (from n : ℕ) → ((i : ℕ) → from ≤ i → i < from + n → f i ≡ g i) → runs_by f from n ≡ runs_by g from n
runs_by-same f g from zero same = refl
runs_by-same f g from (suc n) same =
    ap₂ (λ s ss. onto_spans from s ss) (same from (omega arith) (omega arith)) (runs_by-same f g (from + 1) n (λ i le lt. same i (omega arith) (omega arith)))

-- the first `a` have no style
pub runs_by-none : (f : ℕ → Option ℕ) (from a b n m : ℕ) → ((i : ℕ) → from ≤ i → i < from + a → f i ≡ None) → n ≡ a + b → m ≡ from + a →
    runs_by f from n ≡ runs_by f m b
runs_by-none f from zero b n m none long at =
    ap₂ (λ i j. runs_by f i j) (let here : from ≡ m = omega arith in here) (let all : n ≡ b = omega arith in all)
runs_by-none f from (suc a) b n m none long at =
    ap (λ j. runs_by f from j) (let more : n ≡ suc (a + b) = omega arith in more) ∙
    ap (λ s. onto_spans from s (runs_by f (from + 1) (a + b))) (none from (omega arith) (omega arith)) ∙
    runs_by-none f (from + 1) a b (a + b) m (λ i le lt. none i (omega arith) (omega arith)) refl (omega arith)

module _ (style : ℕ) where
  -- one character of the style, and one more
  onto_spans-run : (from to : ℕ) (spans : List Span) → to ≡ from + 1 → onto_spans from (Some style) spans ≡ onto_run style (record { start = from; end = to }) spans
  onto_spans-run from to [] next = ap (λ n. styled_span style (record { start = from; end = n }) ∷ []) (sym next)
  onto_spans-run from to (first ∷ spans) next =
      ap (λ n. if first.start == n && first.style == style then record { start = from; end = first.end; style = style } ∷ spans
      else styled_span style (record { start = from; end = n }) ∷ first ∷ spans) (sym next)

  joins : (from next end : ℕ) (rest : List Span) → next ≡ from + 1 →
      onto_spans from (Some style) (record { start = next; end = end; style = style } ∷ rest) ≡ record { start = from; end = end; style = style } ∷ rest
  joins from next end rest is =
      ap₂ (λ a b. if a && b then record { start = from; end = end; style = style } ∷ rest
      else record { start = from; end = from + 1; style = style } ∷ record { start = next; end = end; style = style } ∷ rest)
      (eq-eqb next (from + 1) is) (eq-eqb style style refl)

  onto_spans-longer : (from next to : ℕ) (spans : List Span) → next ≡ from + 1 →
      onto_spans from (Some style) (onto_run style (record { start = next; end = to }) spans) ≡ onto_run style (record { start = from; end = to }) spans
  onto_spans-longer from next to [] is = joins from next to [] is
  onto_spans-longer from next to (first ∷ spans) is = by (first.start == to && first.style == style)
    where
      by : (b : Bool) →
          onto_spans from (Some style)
          (if b then record { start = next; end = first.end; style = style } ∷ spans else styled_span style (record { start = next; end = to }) ∷ first ∷ spans) ≡
          (if b then record { start = from; end = first.end; style = style } ∷ spans else styled_span style (record { start = from; end = to }) ∷ first ∷ spans)
      by true = joins from next first.end spans is
      by false = joins from next to (first ∷ spans) is

  -- the first `a + 1` have the style
  pub runs_by-all : (f : ℕ → Option ℕ) (from a b n m : ℕ) → ((i : ℕ) → from ≤ i → i < m → f i ≡ Some style) → n ≡ suc a + b → m ≡ from + suc a →
      runs_by f from n ≡ onto_run style (record { start = from; end = m }) (runs_by f m b)
  runs_by-all f from zero b n m all long at =
      ap (λ j. runs_by f from j) (let more : n ≡ suc b = omega arith in more) ∙
      ap₂ (λ s i. onto_spans from s (runs_by f i b)) (all from (omega arith) (omega arith)) (let here : from + 1 ≡ m = omega arith in here) ∙
      onto_spans-run from m (runs_by f m b) (omega arith)
  runs_by-all f from (suc a) b n m all long at =
      ap (λ j. runs_by f from j) (let more : n ≡ suc (suc a + b) = omega arith in more) ∙
      ap₂ (λ s ss. onto_spans from s ss) (all from (omega arith) (omega arith))
      (runs_by-all f (from + 1) a b (suc a + b) m (λ i le lt. all i (omega arith) lt) refl (omega arith)) ∙
      onto_spans-longer from (from + 1) m (runs_by f m b) refl
