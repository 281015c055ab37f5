-- Two lists are the same exactly where they are equally long and each two items are.
use Rattle.std.proofs.Common.{◌≡◌, ◌≢◌, ◌↔◌, ℕ, zero, suc, ◌+◌, ◌<◌, ◌≤◌, Bool, true, false, List, [], ◌∷◌, Some, length, take, refl, ap, ap₂, sym, ◌∙◌, arith}
use Rattle.std.specs.Prelude.{◌&&◌, ◌==◌, IsTrue, get_or, slice_get, slice_index_or}
use Rattle.std.specs.Cmp.Lexicographic.{pointwise}
use Rattle.std.proofs.lemmas.Bool.{ne_eqb}
use Rattle.std.proofs.lemmas.List.{take_all}
use Rattle.std.proofs.lemmas.Option.{get_or_from_slice_get, slice_get_within}

-- lists of two lengths are not
pub apart : {X : Type 0} (same : X → X → Bool) (xs ys : List X) → length xs ≢ length ys → pointwise same xs ys ≡ false
apart same [] [] differ = absurd (differ refl)
apart same [] (y ∷ ys) differ = refl
apart same (x ∷ xs) [] differ = refl
apart same (x ∷ xs) (y ∷ ys) differ =
    ap (λ b. same x y && b) (apart same xs ys (λ long. differ (let one = long in omega arith))) ∙ none (same x y)
  where
    none : (a : Bool) → (a && false) ≡ false
    none true = refl
    none false = refl

-- nor are those of which two items differ
pub one-differs : {X : Type 0} (same : X → X → Bool) (xs ys : List X) (index : ℕ) (x y : X) → index < length xs → index < length ys →
    x ≡ get_or xs index x → y ≡ get_or ys index y → same x y ≡ false → pointwise same xs ys ≡ false
one-differs same [] ys index x y here there one other differ = absurd (omega (arith, here))
one-differs same (a ∷ xs) [] index x y here there one other differ = absurd (omega (arith, there))
one-differs same (a ∷ xs) (b ∷ ys) zero x y here there one other differ =
    ap (λ c. c && pointwise same xs ys) (ap₂ same (sym one) (sym other) ∙ differ)
one-differs same (a ∷ xs) (b ∷ ys) (suc index) x y here there one other differ =
    ap (λ c. same a b && c) (one-differs same xs ys index x y (omega (arith, here)) (omega (arith, there)) one other differ) ∙ none (same a b)
  where
    none : (c : Bool) → (c && false) ≡ false
    none true = refl
    none false = refl

-- the items so far are, and so are these two
pub one-more : {X : Type 0} (same : X → X → Bool) (xs ys : List X) (index : ℕ) (x y : X) → index < length xs → index < length ys →
    x ≡ get_or xs index x → y ≡ get_or ys index y → same x y ≡ true → pointwise same (take index xs) (take index ys) ≡ true →
    pointwise same (take (suc index) xs) (take (suc index) ys) ≡ true
one-more same [] ys index x y here there one other is so_far = absurd (omega (arith, here))
one-more same (a ∷ xs) [] index x y here there one other is so_far = absurd (omega (arith, there))
one-more same (a ∷ xs) (b ∷ ys) zero x y here there one other is so_far = ap (λ c. c && true) (ap₂ same (sym one) (sym other) ∙ is)
one-more same (a ∷ xs) (b ∷ ys) (suc index) x y here there one other is so_far =
    by (same a b) so_far (one-more same xs ys index x y (omega (arith, here)) (omega (arith, there)) one other is)
  where
    by : (c : Bool) → (c && pointwise same (take index xs) (take index ys)) ≡ true →
        (pointwise same (take index xs) (take index ys) ≡ true → pointwise same (take (suc index) xs) (take (suc index) ys) ≡ true) →
        (c && pointwise same (take (suc index) xs) (take (suc index) ys)) ≡ true
    by true so_far rest = rest so_far
    by false so_far rest = absurd cc

-- the same of items that a body reads with some default, which no index inside asks for
get_or-inside : {X : Type 0} (xs : List X) (index : ℕ) (d e : X) → index < length xs → slice_index_or xs index d ≡ get_or xs index e
get_or-inside [] index d e inside = absurd (omega (arith, inside))
get_or-inside (x ∷ xs) zero d e inside = refl
get_or-inside (x ∷ xs) (suc index) d e inside = get_or-inside xs index d e (omega (arith, inside))

pub one-differs-at : {X : Type 0} (same : X → X → Bool) (xs ys : List X) (index : ℕ) (d e : X) → index < length xs → index < length ys →
    same (slice_index_or xs index d) (slice_index_or ys index e) ≡ false → pointwise same xs ys ≡ false
one-differs-at same xs ys index d e here there differ =
    one-differs same xs ys index (slice_index_or xs index d) (slice_index_or ys index e) here there (get_or-inside xs index d (slice_index_or xs index d) here)
    (get_or-inside ys index e (slice_index_or ys index e) there) differ

pub one-more-at : {X : Type 0} (same : X → X → Bool) (xs ys : List X) (index : ℕ) (d e : X) → index < length xs → index < length ys →
    same (slice_index_or xs index d) (slice_index_or ys index e) ≡ true → pointwise same (take index xs) (take index ys) ≡ true →
    pointwise same (take (suc index) xs) (take (suc index) ys) ≡ true
one-more-at same xs ys index d e here there is so_far =
    one-more same xs ys index (slice_index_or xs index d) (slice_index_or ys index e) here there (get_or-inside xs index d (slice_index_or xs index d) here)
    (get_or-inside ys index e (slice_index_or ys index e) there) is so_far

-- the same of items that are looked up
pub one-differs-got : {X : Type 0} (same : X → X → Bool) (xs ys : List X) (index : ℕ) (x y : X) → slice_get xs index ≡ Some x → slice_get ys index ≡ Some y →
    same x y ≡ false → pointwise same xs ys ≡ false
one-differs-got same xs ys index x y one other differ =
    one-differs same xs ys index x y (slice_get_within xs index x one) (slice_get_within ys index y other) (sym (get_or_from_slice_get xs index x x one))
    (sym (get_or_from_slice_get ys index y y other)) differ

pub one-more-got : {X : Type 0} (same : X → X → Bool) (xs ys : List X) (index : ℕ) (x y : X) → slice_get xs index ≡ Some x → slice_get ys index ≡ Some y →
    same x y ≡ true → pointwise same (take index xs) (take index ys) ≡ true → pointwise same (take (index + 1) xs) (take (index + 1) ys) ≡ true
one-more-got same xs ys index x y one other is so_far =
    ap (λ n. pointwise same (take n xs) (take n ys)) (let next : index + 1 ≡ suc index = omega arith in next) ∙
    one-more same xs ys index x y (slice_get_within xs index x one) (slice_get_within ys index y other) (sym (get_or_from_slice_get xs index x x one))
    (sym (get_or_from_slice_get ys index y y other)) is so_far

-- all of two lists of one length
pub all-alike : {X : Type 0} (same : X → X → Bool) (xs ys : List X) (count : ℕ) → length xs ≤ count → length ys ≤ count →
    pointwise same (take count xs) (take count ys) ≡ true → pointwise same xs ys ≡ true
all-alike same xs ys count one other is = sym (ap₂ (λ us vs. pointwise same us vs) (take_all count xs one) (take_all count ys other)) ∙ is

-- ---- a list has no items exactly where the test says so
pub empty-is : {X : Type 0} (xs : List X) (b : Bool) → IsTrue b ↔ (xs ≡ []) → b ≡ (length xs == 0)
empty-is xs true is = sym (ap (λ ys. length ys == 0) (is.0 refl))
empty-is [] false is = absurd (let told = is.1 refl in cc)
empty-is (x ∷ xs) false is = sym (ne_eqb (length (x ∷ xs)) 0 (λ none. omega (arith, none)))
