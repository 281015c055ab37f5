-- Spans as far as they stand in a piece.
use Rattle.std.proofs.Common.{◌≡◌, ℕ, zero, suc, Bool, true, false, ◌+◌, ◌-◌, ◌<◌, ◌≤◌, List, [], ◌∷◌, ◌++◌, length, get_or, drop, map, refl, ap, ap₂, sym, ◌∙◌, arith, append_assoc}
use Rattle.std.specs.Prelude.{min, max, not, nat_lt, nat_le, ◌&&◌, ◌==◌, if◌then◌else◌}
use Rattle.std.specs.List.{filter}
use Rattle.std.proofs.lemmas.Bool.Decides.{nat_tests}
use Rattle.plain_text.specs.declared.run.Run.{Run}
use Rattle.plain_text.specs.declared.selection.Region.{Region}
use Rattle.plain_text.proofs.callers.ListLemmas.{AllByRecursion-append}
use Rattle.plain_edits.specs.declared.style.Span.{Span}
use Rattle.selection_core.specs.Selection.{lesser_end, greater_end}
use Rattle.span_runs.specs.Triples.{LieInLine}
use Rattle.line_render.specs.Rendered.{reaches_in, cut_span, cut_spans}
use Rattle.line_render.specs.Inner.{touching_spans, onto_run, cut_region, selected_runs, styled_span}

-- what passes the one test passes the other, so that the other changes nothing
pub filter-narrow : {X : Type 0} (p q : X → Bool) → ((x : X) → p x ≡ true → q x ≡ true) → (xs : List X) → filter p (filter q xs) ≡ filter p xs
filter-narrow p q implies [] = refl
filter-narrow p q implies (x ∷ xs) = by (p x) (q x) refl (implies x) (filter-narrow p q implies xs)
  where
    by : (b c : Bool) → p x ≡ b → (p x ≡ true → c ≡ true) → filter p (filter q xs) ≡ filter p xs →
        filter p (if c then x ∷ filter q xs else filter q xs) ≡ (if b then x ∷ filter p xs else filter p xs)
    by true true is also rest = ap₂ (λ d ys. if d then x ∷ ys else ys) is rest
    by true false is also rest = absurd (let other = also is in cc)
    by false true is also rest = ap₂ (λ d ys. if d then x ∷ ys else ys) is rest
    by false false is also rest = rest

-- the spans that touch a piece are all that stand in it
pub cut_spans-touching : (start end : ℕ) (spans : List Span) → cut_spans start end (touching_spans start end spans) ≡ cut_spans start end spans
cut_spans-touching start end spans =
    ap (map (cut_span start end))
    (filter-narrow (reaches_in start end) (λ span. nat_lt span.start end) (λ span reaches. begins span.start span.end reaches)
    (filter (λ span. not (nat_le span.end start)) spans) ∙
    filter-narrow (reaches_in start end) (λ span. not (nat_le span.end start)) (λ span reaches. ends span.start span.end reaches) spans)
  where
    begins : (from to : ℕ) → nat_lt (max from start) (min to end) ≡ true → nat_lt from end ≡ true
    begins from to reaches = grind (arith, nat_tests)

    ends : (from to : ℕ) → nat_lt (max from start) (min to end) ≡ true → not (nat_le to start) ≡ true
    ends from to reaches = grind (arith, nat_tests)

pub cut_spans-cons : (start end : ℕ) (span : Span) (spans : List Span) → cut_spans start end (span ∷ spans) ≡ cut_spans start end (span ∷ []) ++ cut_spans start end spans
cut_spans-cons start end span spans = by (reaches_in start end span)
  where
    by : (b : Bool) → map (cut_span start end) (if b then span ∷ filter (reaches_in start end) spans else filter (reaches_in start end) spans) ≡
        map (cut_span start end) (if b then span ∷ [] else []) ++ cut_spans start end spans
    by true = refl
    by false = refl

pub cut_spans-append : (start end : ℕ) (spans others : List Span) → cut_spans start end (spans ++ others) ≡ cut_spans start end spans ++ cut_spans start end others
cut_spans-append start end [] others = refl
cut_spans-append start end (span ∷ spans) others =
    cut_spans-cons start end span (spans ++ others) ∙
    ap (λ ss. cut_spans start end (span ∷ []) ++ ss) (cut_spans-append start end spans others) ∙
    sym (append_assoc (cut_spans start end (span ∷ [])) (cut_spans start end spans) (cut_spans start end others)) ∙
    ap (λ ss. ss ++ cut_spans start end others) (sym (cut_spans-cons start end span spans))

-- the spans from an index on
pub cut_spans-step : (start end i : ℕ) (spans : List Span) (d : Span) → i < length spans →
    cut_spans start end (drop i spans) ≡ cut_spans start end (get_or spans i d ∷ []) ++ cut_spans start end (drop (i + 1) spans)
cut_spans-step start end i spans d inside =
    ap (cut_spans start end) (from_index i spans inside) ∙ cut_spans-cons start end (get_or spans i d) (drop (i + 1) spans)
  where
    from_suc : (i : ℕ) (spans : List Span) → i < length spans → drop i spans ≡ get_or spans i d ∷ drop (suc i) spans
    from_suc i [] inside = absurd (omega arith)
    from_suc zero (span ∷ spans) inside = refl
    from_suc (suc i) (span ∷ spans) inside = from_suc i spans (omega arith)

    from_index : (i : ℕ) (spans : List Span) → i < length spans → drop i spans ≡ get_or spans i d ∷ drop (i + 1) spans
    from_index i spans inside = from_suc i spans inside ∙ ap (λ n. get_or spans i d ∷ drop n spans) (let next : suc i ≡ i + 1 = omega arith in next)

-- ---- all of them lie in the line

cut_inside : (start end len from to : ℕ) → start + len ≡ end → nat_lt (max from start) (min to end) ≡ true →
    (max from start - start ≤ min to end - start) × (min to end - start ≤ len)
cut_inside start end len from to is reaches = (grind (arith, nat_tests), grind (arith, nat_tests))

pub LieInLine-cut_spans : (start end len : ℕ) → start + len ≡ end → (spans : List Span) → LieInLine len (cut_spans start end spans)
LieInLine-cut_spans start end len is [] = tt
LieInLine-cut_spans start end len is (span ∷ spans) = by (reaches_in start end span) refl (LieInLine-cut_spans start end len is spans)
  where
    by : (b : Bool) → reaches_in start end span ≡ b → LieInLine len (cut_spans start end spans) →
        LieInLine len (map (cut_span start end) (if b then span ∷ filter (reaches_in start end) spans else filter (reaches_in start end) spans))
    by true reaches rest = (cut_inside start end len span.start span.end is reaches, rest)
    by false reaches rest = rest

LieInLine-onto_run : (len : ℕ) (run : Run) (spans : List Span) → run.start ≤ run.end → run.end ≤ len → LieInLine len spans → LieInLine len (onto_run 0 run spans)
LieInLine-onto_run len run [] ordered inside lie = ((ordered, inside), tt)
LieInLine-onto_run len run (next ∷ spans) ordered inside lie = by (next.start == run.end) (next.style == 0) refl
  where
    by : (b c : Bool) → (next.start == run.end) ≡ b → LieInLine len
        (if b && c then record { start = run.start; end = next.end; style = 0 } ∷ spans else styled_span 0 run ∷ next ∷ spans)
    by true true same = ((let up = lie.0.0 in let joins : next.start ≡ run.end = grind (arith, nat_tests) in omega arith, lie.0.1), lie.1)
    by true false same = ((ordered, inside), lie)
    by false c same = ((ordered, inside), lie)

pub LieInLine-selected_runs : (start end len : ℕ) → start + len ≡ end → (regions : List Region) → LieInLine len (selected_runs start end regions)
LieInLine-selected_runs start end len is [] = tt
LieInLine-selected_runs start end len is (region ∷ regions) =
    by (nat_lt (cut_region start end region).start (cut_region start end region).end) (LieInLine-selected_runs start end len is regions)
  where
    by : (b : Bool) → LieInLine len (selected_runs start end regions) →
        LieInLine len (if b then onto_run 0 (cut_region start end region) (selected_runs start end regions) else selected_runs start end regions)
    by true rest =
        LieInLine-onto_run len (cut_region start end region) (selected_runs start end regions)
        (let rise : lesser_end region ≤ greater_end region = omega arith in omega arith) (omega arith) rest
    by false rest = rest

pub LieInLine-append : (len : ℕ) (spans others : List Span) → LieInLine len spans → LieInLine len others → LieInLine len (spans ++ others)
LieInLine-append len spans others one other =
    AllByRecursion-append (λ (span : Span). (span.start ≤ span.end) × (span.end ≤ len)) spans others one other
