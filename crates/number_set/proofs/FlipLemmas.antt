-- What is in exactly one of two sets takes one to the other.
use Rattle.std.proofs.Common.{◌≡◌, ℕ, ◌<◌, ◌≤◌, Bool, true, false, not, ◌||◌, if◌then◌else◌, inl, inr, List, [], ◌∷◌, refl, ap, ap₂, sym, ◌∙◌, arith}
use Rattle.std.specs.List.{AllByRecursion}
use Rattle.std.proofs.lemmas.Bool.{both_ways, cases_lt, eq-eqb}
use Rattle.std.specs.List.Sorted.{IsStrictlySortedBy}
use Rattle.std.specs.Ordering.{nat_cmp}
use Rattle.std.proofs.Common.{Less}
use Rattle.plain_text.specs.Numbers.{has, flipped, IsRising}
use Rattle.plain_text.proofs.callers.ListLemmas.{AllByRecursion-weaker}
use Rattle.number_set.proofs.SearchLemmas.{below_of}
use Rattle.plain_text.proofs.callers.NumberLemmas.{differ, has-flipped, IsRising-flipped}

none_above : (n m : ℕ) (xs : List ℕ) → AllByRecursion (λ k. n < k) xs → m ≤ n → has xs m ≡ false
none_above n m [] above le = refl
none_above n m (x ∷ xs) above le =
    ap (λ b. b || has xs m) (differ x m (λ same. omega (arith, same, above.0, le))) ∙ none_above n m xs above.1 le

has-first : (x : ℕ) (xs : List ℕ) → has (x ∷ xs) x ≡ true
has-first x xs = ap (λ b. b || has xs x) (eq-eqb x x refl)

has-other : (x m : ℕ) (xs : List ℕ) → (x ≡ m → ⊥) → has (x ∷ xs) m ≡ has xs m
has-other x m xs other = ap (λ b. b || has xs m) (differ x m other)

-- the first number of a set is not below that of another set with the same numbers
not_below : (x y : ℕ) (xs ys : List ℕ) → IsRising (y ∷ ys) → ((m : ℕ) → has (x ∷ xs) m ≡ has (y ∷ ys) m) → x < y → ⊥
not_below x y xs ys up same below =
    both_ways (has (x ∷ xs) x)
    (same x ∙ has-other y x ys (λ is. omega (arith, is, below)) ∙ none_above y x ys up.0 (omega (arith, below))) (has-first x xs)

-- the numbers after the first one
same_rest : (x y : ℕ) (xs ys : List ℕ) → IsRising (x ∷ xs) → IsRising (y ∷ ys) → x ≡ y → ((m : ℕ) → has (x ∷ xs) m ≡ has (y ∷ ys) m) → (m : ℕ) → has xs m ≡ has ys m
same_rest x y xs ys up others is same m =
    elim (cases_lt x m) [
      | inl above ↦ sym (has-other x m xs (λ e. omega (arith, e, above))) ∙ same m ∙ has-other y m ys (λ e. omega (arith, e, above, is))
      | inr le ↦ none_above x m xs up.0 le ∙ sym (none_above y m ys others.0 (omega (arith, le, is)))
    ]

same_first : (x y : ℕ) (xs ys : List ℕ) → IsRising (x ∷ xs) → IsRising (y ∷ ys) → ((m : ℕ) → has (x ∷ xs) m ≡ has (y ∷ ys) m) → x ≡ y
same_first x y xs ys up others same =
    elim (cases_lt x y) [
      | inl below ↦ absurd (not_below x y xs ys others same below)
      | inr low ↦ elim (cases_lt y x) [
        | inl below ↦ absurd (not_below y x ys xs up (λ m. sym (same m)) below)
        | inr high ↦ omega (arith, low, high)
      ]
    ]

-- a set is no more than its numbers
rising_same : (xs ys : List ℕ) → IsRising xs → IsRising ys → ((m : ℕ) → has xs m ≡ has ys m) → xs ≡ ys
rising_same [] [] up others same = refl
rising_same [] (y ∷ ys) up others same = absurd (both_ways (has (y ∷ ys) y) (sym (same y)) (has-first y ys))
rising_same (x ∷ xs) [] up others same = absurd (both_ways (has (x ∷ xs) x) (same x) (has-first x xs))
rising_same (x ∷ xs) (y ∷ ys) up others same =
    let is = same_first x y xs ys up others same in
    ap₂ (λ n rest. n ∷ rest) is (rising_same xs ys up.1 others.1 (same_rest x y xs ys up others is same))

twice : (x y : Bool) → (if (if y then not x else x) then not x else x) ≡ y
twice true true = refl
twice true false = refl
twice false true = refl
twice false false = refl

pub flipped_back : (xs ys : List ℕ) → IsRising xs → IsRising ys → flipped xs (flipped xs ys) ≡ ys
flipped_back xs ys up others =
    rising_same (flipped xs (flipped xs ys)) ys (IsRising-flipped xs (flipped xs ys) up) others
    (λ m. has-flipped xs (flipped xs ys) m up (IsRising-flipped xs ys up) ∙
    ap (λ b. if b then not (has xs m) else has xs m) (has-flipped xs ys m up others) ∙ twice (has xs m) (has ys m))

-- what is in exactly one of no numbers and others is the others
pub flipped_nothing : (ys : List ℕ) → IsRising ys → flipped [] ys ≡ ys
flipped_nothing ys up =
    rising_same (flipped [] ys) ys (IsRising-flipped [] ys tt) up (λ m. has-flipped [] ys m tt up ∙ only (has ys m))
  where
    only : (b : Bool) → (if b then not false else false) ≡ b
    only true = refl
    only false = refl

-- ---- the keys of a set

pub rising_of_sorted : (xs : List ℕ) → IsStrictlySortedBy nat_cmp xs → IsRising xs
unfolding IsStrictlySortedBy
rising_of_sorted [] sorted = tt
rising_of_sorted (x ∷ xs) sorted =
    (AllByRecursion-weaker (λ y. nat_cmp x y ≡ Less) (λ y. x < y) (λ y is. below_of x y is) xs sorted.0, rising_of_sorted xs sorted.1)
