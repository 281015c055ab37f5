-- What a piece reads of what a search found: the characters of the piece that are found, and nothing right or left of them.
use Rattle.std.proofs.Common.{◌≡◌, ℕ, zero, suc, ◌+◌, ◌-◌, ◌<◌, ◌≤◌, Bool, true, false, List, [], ◌∷◌, ◌++◌, map, cond, Option, Some, None, refl, ap, ap₂, sym, ◌∙◌, arith, inl, inr}
use Rattle.std.specs.Prelude.{◌&&◌, ◌==◌, if◌then◌else◌, max, min, nat_lt}
use Rattle.std.specs.List.{filter}
use Rattle.std.proofs.lemmas.Bool.{cases_lt, eqb-true}
use Rattle.std.proofs.lemmas.Bool.Decides.{nat_tests}
use Rattle.std.proofs.lemmas.List.{map-append}
use Rattle.std.proofs.lemmas.List.Elements.{filter-append}
use Rattle.plain_text.specs.declared.run.Run.{Run}
use Rattle.plain_edits.specs.declared.style.Span.{Span}
use Rattle.span_runs.specs.Spans.{onto_spans}
use Rattle.line_render.specs.Rendered.{cut_span, cut_spans, reaches_in}
use Rattle.line_render.proofs.ForCallers.{runs_by}
use Rattle.doc_layout.specs.Found.{found_spans, is_found}

-- ---- spans one after the other

-- spans from a gap on: each has a character, and none begins before the one before it ends
abbrev StandFrom : ℕ → List Span → Type 0
StandFrom from [] = Unit {0}
StandFrom from (span ∷ spans) = (from ≤ span.start) × (span.start < span.end) × StandFrom span.end spans

StandFrom-lower : (low from : ℕ) (spans : List Span) → low ≤ from → StandFrom from spans → StandFrom low spans
StandFrom-lower low from [] le stand = tt
StandFrom-lower low from (span ∷ spans) le stand = (omega (arith, stand.0), stand.1, stand.2)

StandFrom-onto : (from : ℕ) (style : Option ℕ) (spans : List Span) → StandFrom (from + 1) spans → StandFrom from (onto_spans from style spans)
StandFrom-onto from None spans stand = StandFrom-lower from (from + 1) spans (omega arith) stand
StandFrom-onto from (Some style) [] stand = (omega arith, omega arith, tt)
StandFrom-onto from (Some style) (next ∷ spans) stand = by (next.start == from + 1 && next.style == style)
  where
    by : (b : Bool) → StandFrom from
        (if b then record { start = from; end = next.end; style = style } ∷ spans else record { start = from; end = from + 1; style = style } ∷ next ∷ spans)
    by true = (omega arith, omega (arith, stand.0, stand.1), stand.2)
    by false = (omega arith, omega arith, stand)

StandFrom-runs : (p : ℕ → Option ℕ) (from n : ℕ) → StandFrom from (runs_by p from n)
StandFrom-runs p from zero = tt
StandFrom-runs p from (suc n) = StandFrom-onto from (p from) (runs_by p (from + 1) n) (StandFrom-runs p (from + 1) n)

-- ---- spans that are cut between two gaps

module _ (start end : ℕ) where
  -- a span before others, by where it goes on and where it ends
  abbrev cut_before : ℕ → ℕ → ℕ → List Span → List Span
  cut_before from to style rest = cond (nat_lt from to) (record { start = from - start; end = to - start; style = style } ∷ rest) rest

  cut-cons : (span : Span) (spans : List Span) →
      cut_spans start end (span ∷ spans) ≡ cut_before (max span.start start) (min span.end end) span.style (cut_spans start end spans)
  cut-cons span spans = by (reaches_in start end span)
    where
      by : (b : Bool) → map (cut_span start end) (cond b (span ∷ filter (reaches_in start end) spans) (filter (reaches_in start end) spans)) ≡
          cond b (cut_span start end span ∷ cut_spans start end spans) (cut_spans start end spans)
      by true = refl
      by false = refl

  none : (from to style : ℕ) (rest : List Span) → to ≤ from → cut_before from to style rest ≡ rest
  none from to style rest past =
      ap (λ (b : Bool). cond b (record { start = from - start; end = to - start; style = style } ∷ rest) rest)
      (let test : nat_lt from to ≡ false = grind (arith, nat_tests, past) in test)

  some : (from to style : ℕ) (rest : List Span) → from < to →
      cut_before from to style rest ≡ record { start = from - start; end = to - start; style = style } ∷ rest
  some from to style rest more =
      ap (λ (b : Bool). cond b (record { start = from - start; end = to - start; style = style } ∷ rest) rest)
      (let test : nat_lt from to ≡ true = grind (arith, nat_tests, more) in test)

  -- spans from the end on are cut away
  cut-past : (from : ℕ) (spans : List Span) → end ≤ from → StandFrom from spans → cut_spans start end spans ≡ []
  cut-past from [] past stand = refl
  cut-past from (span ∷ spans) past stand =
      cut-cons span spans ∙ none (max span.start start) (min span.end end) span.style (cut_spans start end spans) (omega (arith, past, stand.0)) ∙
      cut-past span.end spans (omega (arith, past, stand.0, stand.1)) stand.2

  -- so is a character left of the start, of which the spans that go on beside it are cut alike
  cut-left : (from : ℕ) (style : Option ℕ) (spans : List Span) → from < start → StandFrom (from + 1) spans →
      cut_spans start end (onto_spans from style spans) ≡ cut_spans start end spans
  cut-left from None spans left stand = refl
  cut-left from (Some style) [] left stand =
      cut-cons (record { start = from; end = from + 1; style = style }) [] ∙ none (max from start) (min (from + 1) end) style [] (omega (arith, left))
  cut-left from (Some style) (next ∷ spans) left stand = by (next.start == from + 1) (next.style == style) refl refl
    where
      rest : List Span
      rest = cut_spans start end spans

      by : (here alike : Bool) → (next.start == from + 1) ≡ here → (next.style == style) ≡ alike → cut_spans start end
          (if here && alike then record { start = from; end = next.end; style = style } ∷ spans
          else record { start = from; end = from + 1; style = style } ∷ next ∷ spans) ≡ cut_spans start end (next ∷ spans)
      by true true here alike =
          let begins = eqb-true next.start (from + 1) here in
          let same = sym (eqb-true next.style style alike) in
          let from_there : max from start ≡ max next.start start = omega (arith, left, begins) in
          cut-cons (record { start = from; end = next.end; style = style }) spans ∙
          ap₂ (λ (m s : ℕ). cut_before m (min next.end end) s rest) from_there same ∙ sym (cut-cons next spans)
      by true false here alike =
          cut-cons (record { start = from; end = from + 1; style = style }) (next ∷ spans) ∙
          none (max from start) (min (from + 1) end) style (cut_spans start end (next ∷ spans)) (omega (arith, left))
      by false alike here also =
          cut-cons (record { start = from; end = from + 1; style = style }) (next ∷ spans) ∙
          none (max from start) (min (from + 1) end) style (cut_spans start end (next ∷ spans)) (omega (arith, left))

  -- and a character between the gaps stays
  cut-inside : (from : ℕ) (style : Option ℕ) (spans : List Span) → start ≤ from → from < end → StandFrom (from + 1) spans →
      cut_spans start end (onto_spans from style spans) ≡ onto_spans (from - start) style (cut_spans start end spans)
  cut-inside from None spans low high stand = refl
  cut-inside from (Some style) [] low high stand =
      cut-cons (record { start = from; end = from + 1; style = style }) [] ∙ some (max from start) (min (from + 1) end) style [] (omega (arith, low, high)) ∙
      ap₂ (λ (a b : ℕ). record { start = a; end = b; style = style } ∷ [])
      (let here : max from start - start ≡ from - start = omega (arith, low) in here)
      (let there : min (from + 1) end - start ≡ from - start + 1 = omega (arith, low, high) in there)
  cut-inside from (Some style) (next ∷ spans) low high stand = elim (cases_lt next.start end) [
    | inl within ↦ inside (next.start == from + 1) (next.style == style) refl refl within
    | inr past ↦ outside (next.start == from + 1) (next.style == style) refl refl past
  ]
    where
      rest : List Span
      rest = cut_spans start end spans

      one : List Span → List Span
      one more = record { start = from - start; end = from - start + 1; style = style } ∷ more

      alone : cut_before (max from start) (min (from + 1) end) style (cut_spans start end (next ∷ spans)) ≡ one (cut_spans start end (next ∷ spans))
      alone =
          some (max from start) (min (from + 1) end) style (cut_spans start end (next ∷ spans)) (omega (arith, low, high)) ∙
          ap₂ (λ (a b : ℕ). record { start = a; end = b; style = style } ∷ cut_spans start end (next ∷ spans))
          (let here : max from start - start ≡ from - start = omega (arith, low) in here)
          (let there : min (from + 1) end - start ≡ from - start + 1 = omega (arith, low, high) in there)

      cut_next : next.start < end → cut_spans start end (next ∷ spans) ≡
          record { start = next.start - start; end = min next.end end - start; style = next.style } ∷ rest
      cut_next within =
          cut-cons next spans ∙
          some (max next.start start) (min next.end end) next.style rest (omega (arith, low, within, stand.0, stand.1)) ∙
          ap (λ (a : ℕ). record { start = a; end = min next.end end - start; style = next.style } ∷ rest)
          (let here : max next.start start - start ≡ next.start - start = omega (arith, low, stand.0) in here)

      joined : (b : Bool) → (next.start - start == from - start + 1 && next.style == style) ≡ b → next.start < end →
          onto_spans (from - start) (Some style) (cut_spans start end (next ∷ spans)) ≡
          (if b then record { start = from - start; end = min next.end end - start; style = style } ∷ rest else one (cut_spans start end (next ∷ spans)))
      joined b is within =
          ap (onto_spans (from - start) (Some style)) (cut_next within) ∙
          ap (λ (c : Bool). if c then record { start = from - start; end = min next.end end - start; style = style } ∷ rest
          else one (record { start = next.start - start; end = min next.end end - start; style = next.style } ∷ rest)) is ∙
          ap (λ (xs : List Span). if b then record { start = from - start; end = min next.end end - start; style = style } ∷ rest else one xs)
          (sym (cut_next within))

      inside : (here alike : Bool) → (next.start == from + 1) ≡ here → (next.style == style) ≡ alike → next.start < end → cut_spans start end
          (if here && alike then record { start = from; end = next.end; style = style } ∷ spans
          else record { start = from; end = from + 1; style = style } ∷ next ∷ spans) ≡
          onto_spans (from - start) (Some style) (cut_spans start end (next ∷ spans))
      inside true true here alike within =
          let begins = eqb-true next.start (from + 1) here in
          let moved : (next.start - start == from - start + 1) ≡ true = grind (arith, nat_tests, begins, low) in
          cut-cons (record { start = from; end = next.end; style = style }) spans ∙
          some (max from start) (min next.end end) style rest (omega (arith, low, high, begins, stand.1)) ∙
          ap (λ (a : ℕ). record { start = a; end = min next.end end - start; style = style } ∷ rest)
          (let first : max from start - start ≡ from - start = omega (arith, low) in first) ∙
          sym (joined true (ap₂ (λ a b. a && b) moved alike) within)
      inside true false here alike within =
          let begins = eqb-true next.start (from + 1) here in
          let moved : (next.start - start == from - start + 1) ≡ true = grind (arith, nat_tests, begins, low) in
          cut-cons (record { start = from; end = from + 1; style = style }) (next ∷ spans) ∙ alone ∙
          sym (joined false (ap₂ (λ a b. a && b) moved alike) within)
      inside false alike here also within =
          let moved : (next.start - start == from - start + 1) ≡ false = grind (arith, nat_tests, here, low, stand.0) in
          cut-cons (record { start = from; end = from + 1; style = style }) (next ∷ spans) ∙ alone ∙
          sym (joined false (ap (λ (b : Bool). b && (next.style == style)) moved) within)

      no_more : end ≤ next.start → cut_spans start end (next ∷ spans) ≡ []
      no_more past = cut-past next.start (next ∷ spans) past (omega arith, stand.1, stand.2)

      outside : (here alike : Bool) → (next.start == from + 1) ≡ here → (next.style == style) ≡ alike → end ≤ next.start → cut_spans start end
          (if here && alike then record { start = from; end = next.end; style = style } ∷ spans
          else record { start = from; end = from + 1; style = style } ∷ next ∷ spans) ≡
          onto_spans (from - start) (Some style) (cut_spans start end (next ∷ spans))
      outside true true here alike past =
          let begins = eqb-true next.start (from + 1) here in
          cut-cons (record { start = from; end = next.end; style = style }) spans ∙
          some (max from start) (min next.end end) style rest (omega (arith, low, high, begins, stand.1)) ∙
          ap₂ (λ (a b : ℕ). record { start = a; end = b; style = style } ∷ rest)
          (let first : max from start - start ≡ from - start = omega (arith, low) in first)
          (let last : min next.end end - start ≡ from - start + 1 = omega (arith, low, high, begins, past, stand.1) in last) ∙
          ap one (cut-past next.end spans (omega (arith, past, stand.1)) stand.2) ∙
          sym (ap (onto_spans (from - start) (Some style)) (no_more past))
      outside true false here alike past =
          cut-cons (record { start = from; end = from + 1; style = style }) (next ∷ spans) ∙ alone ∙
          ap one (no_more past) ∙ sym (ap (onto_spans (from - start) (Some style)) (no_more past))
      outside false alike here also past =
          cut-cons (record { start = from; end = from + 1; style = style }) (next ∷ spans) ∙ alone ∙
          ap one (no_more past) ∙ sym (ap (onto_spans (from - start) (Some style)) (no_more past))

  -- RUNS THAT ARE CUT are those of the characters between the gaps
  cut-alike : (p q : ℕ → Option ℕ) (from n m : ℕ) → end ≤ from + n → end ≤ from + m → ((k : ℕ) → start ≤ k → k < end → p k ≡ q k) →
      cut_spans start end (runs_by p from n) ≡ cut_spans start end (runs_by q from m)
  cut-alike p q from zero m one other same =
      sym (cut-past from (runs_by q from m) (omega (arith, one)) (StandFrom-runs q from m))
  cut-alike p q from (suc n) zero one other same =
      cut-past from (runs_by p from (suc n)) (omega (arith, other)) (StandFrom-runs p from (suc n))
  cut-alike p q from (suc n) (suc m) one other same = elim (cases_lt from end) [
    | inl before ↦ elim (cases_lt from start) [
      | inl left ↦
          cut-left from (p from) (runs_by p (from + 1) n) left (StandFrom-runs p (from + 1) n) ∙
          cut-alike p q (from + 1) n m (omega (arith, one)) (omega (arith, other)) same ∙
          sym (cut-left from (q from) (runs_by q (from + 1) m) left (StandFrom-runs q (from + 1) m))
      | inr low ↦
          cut-inside from (p from) (runs_by p (from + 1) n) low before (StandFrom-runs p (from + 1) n) ∙
          ap₂ (λ (style : Option ℕ) (spans : List Span). onto_spans (from - start) style spans) (same from low before)
          (cut-alike p q (from + 1) n m (omega (arith, one)) (omega (arith, other)) same) ∙
          sym (cut-inside from (q from) (runs_by q (from + 1) m) low before (StandFrom-runs q (from + 1) m))
    ]
    | inr past ↦
        cut-past from (runs_by p from (suc n)) past (StandFrom-runs p from (suc n)) ∙
        sym (cut-past from (runs_by q from (suc m)) past (StandFrom-runs q from (suc m)))
  ]

  -- they are those of the characters between the gaps, counted from the first gap
  runs-inside : (p : ℕ → Option ℕ) (from n : ℕ) → start ≤ from → end ≤ from + n →
      cut_spans start end (runs_by p from n) ≡ runs_by (λ k. p (start + k)) (from - start) (end - from)
  runs-inside p from zero low high =
      ap (runs_by (λ k. p (start + k)) (from - start)) (let none : 0 ≡ end - from = omega (arith, high) in none)
  runs-inside p from (suc n) low high = elim (cases_lt from end) [
    | inl before ↦
        cut-inside from (p from) (runs_by p (from + 1) n) low before (StandFrom-runs p (from + 1) n) ∙
        ap₂ (λ (style : Option ℕ) (spans : List Span). onto_spans (from - start) style spans)
        (ap p (let here : from ≡ start + (from - start) = omega (arith, low) in here))
        (runs-inside p (from + 1) n (omega (arith, low)) (omega (arith, high)) ∙
        ap (λ (i : ℕ). runs_by (λ k. p (start + k)) i (end - (from + 1))) (let next : from + 1 - start ≡ from - start + 1 = omega (arith, low) in next)) ∙
        ap (runs_by (λ k. p (start + k)) (from - start)) (let more : suc (end - (from + 1)) ≡ end - from = omega (arith, before) in more)
    | inr past ↦
        cut-past from (runs_by p from (suc n)) past (StandFrom-runs p from (suc n)) ∙
        ap (runs_by (λ k. p (start + k)) (from - start)) (let none : 0 ≡ end - from = omega (arith, past) in none)
  ]

  pub runs-cut : (p : ℕ → Option ℕ) (from n : ℕ) → from ≤ start → end ≤ from + n →
      cut_spans start end (runs_by p from n) ≡ runs_by (λ k. p (start + k)) 0 (end - start)
  runs-cut p from zero low high = ap (runs_by (λ k. p (start + k)) 0) (let none : 0 ≡ end - start = omega (arith, low, high) in none)
  runs-cut p from (suc n) low high = elim (cases_lt from start) [
    | inl left ↦
        cut-left from (p from) (runs_by p (from + 1) n) left (StandFrom-runs p (from + 1) n) ∙
        runs-cut p (from + 1) n (omega (arith, left)) (omega (arith, high))
    | inr there ↦
        let same : from ≡ start = omega (arith, low, there) in
        runs-inside p from (suc n) there high ∙
        ap₂ (λ (i m : ℕ). runs_by (λ k. p (start + k)) i m) (let none : from - start ≡ 0 = omega (arith, same) in none)
        (let all : end - from ≡ end - start = omega (arith, same) in all)
  ]

  pub cut_spans-append : (spans others : List Span) → cut_spans start end (spans ++ others) ≡ cut_spans start end spans ++ cut_spans start end others
  cut_spans-append spans others =
      ap (map (cut_span start end)) (filter-append (reaches_in start end) spans others) ∙
      map-append (cut_span start end) (filter (reaches_in start end) spans) (filter (reaches_in start end) others)

  -- SO ARE THOSE OF WHAT A SEARCH FOUND
  pub found-cut : (results founds : List Run) (len more : ℕ) → end ≤ len → end ≤ more →
      ((index : ℕ) → start ≤ index → index < end → is_found results index ≡ is_found founds index) →
      cut_spans start end (found_spans results len) ≡ cut_spans start end (found_spans founds more)
  found-cut results founds len more one other same =
      cut-alike (λ index. if is_found results index then Some 1 else None) (λ index. if is_found founds index then Some 1 else None) 0 len more
      (omega (arith, one)) (omega (arith, other)) (λ k low high. ap (λ (b : Bool). if b then Some 1 else None) (same k low high))
