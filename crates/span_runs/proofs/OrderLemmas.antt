-- Lemmas on spans in order.
use Rattle.std.proofs.Common.{◌≡◌, ℕ, zero, suc, Bool, true, false, cond, ◌+◌, ◌<◌, if◌then◌else◌, List, [], ◌∷◌, ◌++◌, length, get_or, refl, ap, sym, ◌∙◌, arith, append_assoc}
use Rattle.std.specs.Prelude.{nat_lt, ◌==◌, slice_set, slice_index_or}
use Rattle.std.specs.List.{swap}
use Rattle.std.specs.List.Sorted.{IsPermutation, IsSortedBy}
use Rattle.std.specs.declared.cmp.Ordering.{Ordering}
use Rattle.std.specs.declared.cmp.Ordering.TheVariants.{Less, Equal, Greater}
use Rattle.std.specs.Ordering.{nat_cmp, ordering_then, is_lt, ordering_reverse}
use Rattle.std.specs.Cmp.{IsTotalOrder, IsStrictWeakOrder, nat_cmp_total}
use Rattle.std.proofs.lemmas.Cmp.{then_total, on_total}
use Rattle.std.proofs.lemmas.Bool.{eqb-true}
use Rattle.std.proofs.lemmas.List.Sorted.{IsPermutation-keeps, ranks_by}
use Rattle.plain_edits.specs.declared.style.Span.{Span}
use Rattle.span_runs.specs.Spans.{span_cmp, with_span, sorted_spans}

-- ---- the order of spans

total : IsTotalOrder span_cmp
total = then_total (then_total (on_total (λ (s : Span). s.start) nat_cmp_total) (on_total (λ (s : Span). s.style) nat_cmp_total)) (on_total (λ (s : Span). s.end) nat_cmp_total)

abbrev pub comes_before : Span → Span → Bool
comes_before a b = is_lt (span_cmp a b)

strict : IsStrictWeakOrder comes_before
strict = ranks_by total (λ (s : Span). s)

later_before : (one first second : Span) → comes_before one first ≡ false → comes_before one second ≡ true → comes_before first second ≡ true
later_before one first second not_before before = by (comes_before first second) refl
  where
    by : (b : Bool) → comes_before first second ≡ b → b ≡ true
    by true is = refl
    by false is = absurd (let no = strict.chain one first second not_before is in cc)

same_number : (a b : ℕ) → nat_cmp a b ≡ Equal → a ≡ b
same_number a b is = by (nat_lt a b) (a == b) (eqb-true a b) is
  where
    by : (l e : Bool) → (e ≡ true → a ≡ b) → cond l Less (cond e Equal Greater) ≡ Equal → a ≡ b
    by true e same is = absurd (let no = is in cc)
    by false true same is = same refl
    by false false same is = absurd (let no = is in cc)

both_equal : (x y : Ordering) → ordering_then x y ≡ Equal → (x ≡ Equal) × (y ≡ Equal)
both_equal Less y is = absurd (let no = is in cc)
both_equal Equal y is = (refl, is)
both_equal Greater y is = absurd (let no = is in cc)

tied : (x y : Ordering) → x ≡ ordering_reverse y → is_lt x ≡ false → is_lt y ≡ false → x ≡ Equal
tied Less y back one other = absurd (let no = one in cc)
tied Equal y back one other = refl
tied Greater Less back one other = absurd (let no = other in cc)
tied Greater Equal back one other = absurd (let no = back in cc)
tied Greater Greater back one other = absurd (let no = back in cc)

same_span : (a b : Span) → a.start ≡ b.start → a.end ≡ b.end → a.style ≡ b.style → a ≡ b
same_span a b start end style =
    let from : ℕ → Span = λ s. record { start = s; end = a.end; style = a.style } in
    let to : ℕ → Span = λ e. record { start = b.start; end = e; style = a.style } in
    let of_style : ℕ → Span = λ t. record { start = b.start; end = b.end; style = t } in
    ap from start ∙ ap to end ∙ ap of_style style

one_span : (a b : Span) → comes_before a b ≡ false → comes_before b a ≡ false → a ≡ b
one_span a b one other =
    let equal = tied (span_cmp a b) (span_cmp b a) (total.antisymm a b) one other in
    let outer = both_equal (ordering_then (nat_cmp a.start b.start) (nat_cmp a.style b.style)) (nat_cmp a.end b.end) equal in
    let inner = both_equal (nat_cmp a.start b.start) (nat_cmp a.style b.style) outer.0 in
    same_span a b (same_number a.start b.start inner.0) (same_number a.end b.end outer.1) (same_number a.style b.style inner.1)

-- ---- two spans that are put in their places, in either order

if_through : (f : List Span → List Span) (t : Bool) (xs ys : List Span) → f (if t then xs else ys) ≡ (if t then f xs else f ys)
if_through f true xs ys = refl
if_through f false xs ys = refl

with_span-both : (first second : Span) (xs : List Span) → with_span first (with_span second xs) ≡ with_span second (with_span first xs)
with_span-both first second [] = by (comes_before second first) (comes_before first second) (strict.one_way first second) (one_span first second)
  where
    by : (t u : Bool) → (u ≡ true → t ≡ false) → (u ≡ false → t ≡ false → first ≡ second) →
        (if t then second ∷ first ∷ [] else first ∷ second ∷ []) ≡ (if u then first ∷ second ∷ [] else second ∷ first ∷ [])
    by true true one tie = absurd (let no = one refl in cc)
    by true false one tie = refl
    by false true one tie = refl
    by false false one tie = let same = tie refl refl in cc
with_span-both first second (next ∷ xs) =
    if_through (with_span first) (comes_before next second) (next ∷ with_span second xs) (second ∷ next ∷ xs) ∙
    by (comes_before next first) (comes_before next second) (comes_before second first) (comes_before first second)
    (strict.one_way first second) (one_span first second) (later_before next first second) (later_before next second first)
    (with_span-both first second xs) ∙
    sym (if_through (with_span second) (comes_before next first) (next ∷ with_span first xs) (first ∷ next ∷ xs))
  where
    by : (t u : Bool) (second_first first_second : Bool) → (first_second ≡ true → second_first ≡ false) →
        (first_second ≡ false → second_first ≡ false → first ≡ second) →
        (t ≡ false → u ≡ true → first_second ≡ true) → (u ≡ false → t ≡ true → second_first ≡ true) →
        with_span first (with_span second xs) ≡ with_span second (with_span first xs) →
        (if u then (if t then next ∷ with_span first (with_span second xs) else first ∷ next ∷ with_span second xs)
        else (if second_first then second ∷ (if t then next ∷ with_span first xs else first ∷ next ∷ xs) else first ∷ second ∷ next ∷ xs)) ≡
        (if t then (if u then next ∷ with_span second (with_span first xs) else second ∷ next ∷ with_span first xs)
        else (if first_second then first ∷ (if u then next ∷ with_span second xs else second ∷ next ∷ xs) else second ∷ first ∷ next ∷ xs))
    by true true _ _ one tie left right rest = ap (λ ys. next ∷ ys) rest
    by false true second_first true one tie left right rest = refl
    by false true second_first false one tie left right rest = absurd (let no = left refl refl in cc)
    by true false true first_second one tie left right rest = refl
    by true false false first_second one tie left right rest = absurd (let no = right refl refl in cc)
    by false false true true one tie left right rest = absurd (let no = one refl in cc)
    by false false true false one tie left right rest = refl
    by false false false true one tie left right rest = refl
    by false false false false one tie left right rest = let same = tie refl refl in cc

-- ---- spans in another order

-- whatever stands before, the two lists have one order
abbrev SortAlike : List Span → List Span → Type 0
SortAlike xs ys = (front : List Span) → sorted_spans (front ++ xs) ≡ sorted_spans (front ++ ys)

SortAlike-cons : (span : Span) (xs ys : List Span) → SortAlike xs ys → SortAlike (span ∷ xs) (span ∷ ys)
SortAlike-cons span xs ys alike front =
    ap sorted_spans (sym (append_assoc front (span ∷ []) xs)) ∙ alike (front ++ span ∷ []) ∙ ap sorted_spans (append_assoc front (span ∷ []) ys)

SortAlike-exchanged : (first second : Span) (back : List Span) → SortAlike (first ∷ second ∷ back) (second ∷ first ∷ back)
SortAlike-exchanged first second back [] = with_span-both first second (sorted_spans back)
SortAlike-exchanged first second back (span ∷ front) = ap (with_span span) (SortAlike-exchanged first second back front)

SortAlike-first : (span : Span) (spans : List Span) (k : ℕ) (d : Span) → k < length spans → SortAlike (span ∷ spans) (slice_index_or spans k d ∷ slice_set spans k span)
SortAlike-first span [] k d inside = absurd (omega arith)
SortAlike-first span (next ∷ spans) zero d inside = SortAlike-exchanged span next spans
SortAlike-first span (next ∷ spans) (suc k) d inside = λ front.
    let there = slice_index_or spans k d in
    let others = slice_set spans k span in
    SortAlike-exchanged span next spans front ∙
    SortAlike-cons next (span ∷ spans) (there ∷ others) (SortAlike-first span spans k d (omega arith)) front ∙
    SortAlike-exchanged next there others front

SortAlike-swapped : (spans : List Span) (i j : ℕ) (d : Span) → i < length spans → j < length spans →
    SortAlike spans (slice_set (slice_set spans i (slice_index_or spans j d)) j (slice_index_or spans i d))
SortAlike-swapped [] i j d one other = absurd (omega arith)
SortAlike-swapped (span ∷ spans) zero zero d one other = λ front. refl
SortAlike-swapped (span ∷ spans) zero (suc j) d one other = SortAlike-first span spans j d (omega arith)
SortAlike-swapped (span ∷ spans) (suc i) zero d one other = SortAlike-first span spans i d (omega arith)
SortAlike-swapped (span ∷ spans) (suc i) (suc j) d one other =
    SortAlike-cons span spans (slice_set (slice_set spans i (slice_index_or spans j d)) j (slice_index_or spans i d))
    (SortAlike-swapped spans i j d (omega arith) (omega arith))

sorted_spans-swap : (spans : List Span) (i j : ℕ) → i < length spans → j < length spans → sorted_spans spans ≡ sorted_spans (swap spans i j)
sorted_spans-swap [] i j one other = absurd (omega arith)
sorted_spans-swap (span ∷ spans) i j one other = SortAlike-swapped (span ∷ spans) i j span one other []

pub sorted_spans-permutation : (spans others : List Span) → IsPermutation spans others → sorted_spans spans ≡ sorted_spans others
sorted_spans-permutation spans others moved =
    IsPermutation-keeps spans (λ list. sorted_spans spans ≡ sorted_spans list) refl
    (λ list i j one other same. same ∙ sorted_spans-swap list i j one other) others moved

-- ---- what a sort gives

sorted_spans-sorted : (spans : List Span) → ((k : ℕ) (d : Span) → k + 1 < length spans → comes_before (get_or spans (k + 1) d) (get_or spans k d) ≡ false) → sorted_spans spans ≡ spans
sorted_spans-sorted [] sorted = refl
sorted_spans-sorted (span ∷ []) sorted = refl
sorted_spans-sorted (span ∷ next ∷ spans) sorted =
    ap (with_span span) (sorted_spans-sorted (next ∷ spans) (λ k d inside. later k d (sorted (suc k) d (omega arith)))) ∙
    by (comes_before next span) (sorted 0 span (omega arith))
  where
    later : (k : ℕ) (d : Span) → comes_before (get_or (span ∷ next ∷ spans) (suc k + 1) d) (get_or (span ∷ next ∷ spans) (suc k) d) ≡ false →
        comes_before (get_or (next ∷ spans) (k + 1) d) (get_or (next ∷ spans) k d) ≡ false
    later k d is = let more : suc k + 1 ≡ suc (k + 1) = omega arith in ap (λ n. comes_before (get_or (span ∷ next ∷ spans) n d) (get_or (next ∷ spans) k d)) (sym more) ∙ is

    by : (t : Bool) → t ≡ false → (if t then next ∷ with_span span spans else span ∷ next ∷ spans) ≡ span ∷ next ∷ spans
    by true is = cc
    by false is = refl

pub sorted_spans-from_sort : (spans others : List Span) → IsPermutation spans others → IsSortedBy comes_before others → others ≡ sorted_spans spans
sorted_spans-from_sort spans others moved sorted =
    sym (sorted_spans-permutation spans others moved ∙ sorted_spans-sorted others (λ k d inside. sorted k d (omega arith) inside))
