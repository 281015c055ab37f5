-- A search by halves in a rising list, and the list with a number put in or taken out where the search ended.
use Rattle.std.proofs.Common.{◌≡◌, ℕ, zero, suc, ◌+◌, ◌-◌, min, ◌<◌, ◌≤◌, List, [], ◌∷◌, ◌++◌, length, take, drop, get_or, nat_cmp, Less, Equal, Greater, Ok, Err, ap, sym, ◌∙◌, arith, length-append}
use Rattle.std.specs.List.{AllByRecursion}
use Rattle.std.specs.List.Sorted.{IsBinarySearchResult}
use Rattle.std.proofs.lemmas.Bool.Decides.{nat_tests}
use Rattle.std.proofs.lemmas.Cmp.{ranked}
use Rattle.std.proofs.lemmas.List.{get_or_read, get_or_default, take-append-drop, length-take, length-drop}
use Rattle.std.proofs.lemmas.List.Sorted.{searched}
use Rattle.shared_tree.specs.Replaced.{replaced}
use Rattle.plain_text.specs.Numbers.{with_number, without_number, IsRising}
use Rattle.plain_text.proofs.callers.NumberLemmas.{with-missed, without-found}

less : (a b : ℕ) → a < b → nat_cmp a b ≡ Less
less a b h = grind (arith, nat_tests)

equal : (a b : ℕ) → a ≡ b → nat_cmp a b ≡ Equal
equal a b h = grind (arith, nat_tests)

greater : (a b : ℕ) → b < a → nat_cmp a b ≡ Greater
greater a b h = grind (arith, nat_tests)

above_at : (n : ℕ) (xs : List ℕ) (j : ℕ) → AllByRecursion (λ m. n < m) xs → j < length xs → n < get_or xs j 0
above_at n [] j all lt = absurd (omega arith)
above_at n (x ∷ xs) zero all lt = all.0
above_at n (x ∷ xs) (suc j) all lt = above_at n xs j all.1 (omega arith)

pub rises : (xs : List ℕ) → IsRising xs → (i j : ℕ) → i ≤ j → j < length xs → get_or xs i 0 ≤ get_or xs j 0
rises [] up i j le lt = absurd (omega arith)
rises (x ∷ xs) up zero zero le lt = omega arith
rises (x ∷ xs) up zero (suc j) le lt = omega (arith, above_at x xs j up.0 (omega arith))
rises (x ∷ xs) up (suc i) zero le lt = absurd (omega arith)
rises (x ∷ xs) up (suc i) (suc j) le lt = rises xs up.1 i j (omega arith) (omega arith)

-- what is left to search: all before it is less than the number, and all behind it is greater
pub record IsRange (xs : List ℕ) (number low high : ℕ) : Type 0 where
  pub ordered : low ≤ high
  pub inside : high ≤ length xs
  pub below : (k : ℕ) → k < low → get_or xs k 0 < number
  pub above : (k : ℕ) → high ≤ k → k < length xs → number < get_or xs k 0

module _ (xs : List ℕ) (up : IsRising xs) (number : ℕ) where
  pub whole : IsRange xs number 0 (length xs)
  whole = record {
    ordered = omega arith;
    inside = omega arith;
    below = λ k lt. absurd (omega arith);
    above = λ k le lt. absurd (omega arith);
  }

  module _ (low high middle value : ℕ) (range : IsRange xs number low high) (from : low ≤ middle) (to : middle < high) (is : value ≡ get_or xs middle value) where
    value_is : value ≡ get_or xs middle 0
    value_is = get_or_read xs middle value (omega (arith, range.inside)) is 0

    pub upper : value < number → IsRange xs number (middle + 1) high
    upper lt = record {
      ordered = omega arith;
      inside = range.inside;
      below = λ k before. omega (arith, value_is, rises xs up k middle (omega arith) (omega (arith, range.inside)));
      above = range.above;
    }

    pub lower : number < value → IsRange xs number low middle
    lower gt = record {
      ordered = from;
      inside = omega (arith, range.inside);
      below = range.below;
      above = λ k after lt. omega (arith, value_is, rises xs up middle k after lt);
    }

    pub found : value ≡ number → IsBinarySearchResult (λ y. nat_cmp y number) xs (Ok middle)
    found same = λ d. equal (get_or xs middle d) number (sym (get_or_read xs middle value (omega (arith, range.inside)) is d) ∙ same)

  pub missed : (low high : ℕ) → IsRange xs number low high → high ≤ low → IsBinarySearchResult (λ y. nat_cmp y number) xs (Err low)
  missed low high range done rising = (
    λ k d from to. less (get_or xs k d) number (omega (arith, get_or_default xs k d 0 (omega (arith, range.inside, range.ordered)), range.below k to)),
    λ k d from to. greater (get_or xs k d) number (omega (arith, get_or_default xs k d 0 to, range.above k (omega (arith, range.ordered)) to)),
  )

  pub gap_inside : (at : ℕ) → IsBinarySearchResult (λ y. nat_cmp y number) xs (Err at) → at ≤ length xs
  gap_inside at place = let parts = searched xs number (Err at) place (rises xs up) in parts.0

  pub place_inside : (at : ℕ) → IsBinarySearchResult (λ y. nat_cmp y number) xs (Ok at) → at < length xs
  place_inside at place = let parts = searched xs number (Ok at) place (rises xs up) in parts.0

  pub one_more : (at : ℕ) → IsBinarySearchResult (λ y. nat_cmp y number) xs (Err at) → length (replaced xs at at (number ∷ [])) ≤ length xs + 1
  one_more at place = omega (arith, length-append (take at xs) (number ∷ drop at xs), length-append (take at xs) (drop at xs), ap length (take-append-drop at xs))

-- ---- where the search ended

next : (n : ℕ) → n + 1 ≡ suc n
next n = omega arith

module _ (xs : List ℕ) (up : IsRising xs) (number at : ℕ) where
  pub put : IsBinarySearchResult (λ y. nat_cmp y number) xs (Err at) → replaced xs at at (number ∷ []) ≡ with_number xs number
  put place = with-missed xs up number at place

  pub taken : IsBinarySearchResult (λ y. nat_cmp y number) xs (Ok at) → replaced xs at (at + 1) [] ≡ without_number xs number
  taken place = ap (λ k. take at xs ++ drop k xs) (next at) ∙ without-found xs up number at place

-- without one of them there are no more
pub one_less : (xs : List ℕ) (at : ℕ) → length (replaced xs at (at + 1) []) ≤ length xs
one_less xs at = omega (arith, length-append (take at xs) (drop (at + 1) xs), length-take at xs, length-drop (at + 1) xs, common at (length xs))
  where
    common : (i n : ℕ) → min i n + (n - (i + 1)) ≤ n
    common i n = grind arith

-- what a comparison says
pub below_of : (a b : ℕ) → nat_cmp a b ≡ Less → a < b
below_of a b is = ranked a b Less (sym is)

pub same_of : (a b : ℕ) → nat_cmp a b ≡ Equal → a ≡ b
same_of a b is = ranked a b Equal (sym is)

pub above_of : (a b : ℕ) → nat_cmp a b ≡ Greater → b < a
above_of a b is = ranked a b Greater (sym is)
