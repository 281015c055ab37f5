-- Numbers in order: what a binary search finds, and what an edit at that place makes of them.
use Rattle.std.proofs.Common.{◌≡◌, ℕ, zero, suc, ◌<◌, ◌≤◌, Bool, true, false, cond, not, ◌||◌, if◌then◌else◌, ◌==◌, List, [], ◌∷◌, fold, length, get_or, insert, remove, is_ok, is_eq, nat_cmp, Ordering, Less, Equal, Greater, Result, Ok, Err, refl, ap, ap₂, sym, ◌∙◌, inl, inr, arith}
use Rattle.std.specs.List.{AllByRecursion}
use Rattle.std.specs.List.Sorted.{IsBinarySearchResult}
use Rattle.std.specs.Ordering.{match_ordering, MatchOrdering}
use Rattle.std.specs.BTreeMap.{is_at}
use Rattle.std.proofs.lemmas.Bool.{cases_eq}
use Rattle.std.proofs.lemmas.Cmp.{ranked}
use Rattle.std.proofs.lemmas.List.Sorted.{searched}
use Rattle.std.proofs.lemmas.Bool.Decides.{nat_tests}
use Rattle.plain_text.specs.Numbers.{has, with_number, without_number, turned, flipped, IsRising}

-- ---- comparing

less : (a b : ℕ) → a < b → nat_cmp a b ≡ Less
less a b h = grind (arith, nat_tests)

equal : (a b : ℕ) → a ≡ b → nat_cmp a b ≡ Equal
equal a b h = grind (arith, nat_tests)

greater : (a b : ℕ) → b < a → nat_cmp a b ≡ Greater
greater a b h = grind (arith, nat_tests)

same : (a b : ℕ) → a ≡ b → (a == b) ≡ true
same a b h = grind (arith, nat_tests)

pub differ : (a b : ℕ) → (a ≡ b → ⊥) → (a == b) ≡ false
differ a b h = grind (arith, nat_tests)

differ_cmp : (a b : ℕ) → (a ≡ b → ⊥) → is_eq (nat_cmp b a) ≡ false
differ_cmp a b h = grind (arith, nat_tests)

or_first : (a b : Bool) → a ≡ true → (a || b) ≡ true
or_first true b h = refl
or_first false b h = cc

or_second : (a b : Bool) → b ≡ true → (a || b) ≡ true
or_second true b h = refl
or_second false b h = h

or_none : (a b : Bool) → a ≡ false → b ≡ false → (a || b) ≡ false
or_none true b g h = cc
or_none false b g h = h

at_ordered : (P : List ℕ → Type 0) (o : Ordering) (X Y Z : Type 0) (a b c : List ℕ) → MatchOrdering o X Y Z → (X → P a) → (Y → P b) → (Z → P c) → P (match_ordering o a b c)
at_ordered P Less X Y Z a b c h p q r = p h
at_ordered P Equal X Y Z a b c h p q r = q h
at_ordered P Greater X Y Z a b c h p q r = r h

at_cond : (P : List ℕ → Type 0) (t : Bool) (a b : List ℕ) → P a → P b → P (cond t a b)
at_cond P true a b p q = p
at_cond P false a b p q = q

-- ---- in order

above_at : (n : ℕ) (xs : List ℕ) (j : ℕ) → AllByRecursion (λ m. n < m) xs → j < length xs → n < get_or xs j 0
above_at n [] j all lt = absurd (omega arith)
above_at n (x ∷ xs) zero all lt = all.0
above_at n (x ∷ xs) (suc j) all lt = above_at n xs j all.1 (omega arith)

rises : (xs : List ℕ) → IsRising xs → (i j : ℕ) → i ≤ j → j < length xs → get_or xs i 0 ≤ get_or xs j 0
rises [] up i j le lt = absurd (omega arith)
rises (x ∷ xs) up zero zero le lt = omega arith
rises (x ∷ xs) up zero (suc j) le lt = omega (arith, above_at x xs j up.0 (omega arith))
rises (x ∷ xs) up (suc i) zero le lt = absurd (omega arith)
rises (x ∷ xs) up (suc i) (suc j) le lt = rises xs up.1 i j (omega arith) (omega arith)

all_weaker : (n m : ℕ) (xs : List ℕ) → n < m → AllByRecursion (λ k. m < k) xs → AllByRecursion (λ k. n < k) xs
all_weaker n m [] lt all = tt
all_weaker n m (x ∷ xs) lt all = (omega (arith, all.0), all_weaker n m xs lt all.1)

all-with : (m n : ℕ) (xs : List ℕ) → m < n → AllByRecursion (λ k. m < k) xs → AllByRecursion (λ k. m < k) (with_number xs n)
all-with m n [] lt all = (lt, tt)
all-with m n (x ∷ xs) lt all =
    at_ordered (AllByRecursion (λ k. m < k)) (nat_cmp n x) (n < x) (n ≡ x) (x < n) (n ∷ x ∷ xs) (x ∷ xs) (x ∷ with_number xs n) (ranked n x (nat_cmp n x) refl) (λ _. (lt, all)) (λ _. all) (λ _. (all.0, all-with m n xs lt all.1))

pub IsRising-with : (xs : List ℕ) (n : ℕ) → IsRising xs → IsRising (with_number xs n)
IsRising-with [] n up = (tt, tt)
IsRising-with (x ∷ xs) n up =
    at_ordered IsRising (nat_cmp n x) (n < x) (n ≡ x) (x < n) (n ∷ x ∷ xs) (x ∷ xs) (x ∷ with_number xs n) (ranked n x (nat_cmp n x) refl) (λ lt. ((lt, all_weaker n x xs lt up.0), up)) (λ _. up) (λ lt. (all-with x n xs lt up.0, IsRising-with xs n up.1))

all-without : (m n : ℕ) (xs : List ℕ) → AllByRecursion (λ k. m < k) xs → AllByRecursion (λ k. m < k) (without_number xs n)
all-without m n [] all = tt
all-without m n (x ∷ xs) all =
    at_cond (AllByRecursion (λ k. m < k)) (is_at (nat_cmp n) x) xs (x ∷ without_number xs n) all.1 (all.0, all-without m n xs all.1)

pub IsRising-without : (xs : List ℕ) (n : ℕ) → IsRising xs → IsRising (without_number xs n)
IsRising-without [] n up = tt
IsRising-without (x ∷ xs) n up =
    at_cond IsRising (is_at (nat_cmp n) x) xs (x ∷ without_number xs n) up.1 (all-without x n xs up.0, IsRising-without xs n up.1)

-- ---- a number that is there

record IsPlace (xs : List ℕ) (n i : ℕ) : Type 0 where
  within : i < length xs
  here : get_or xs i 0 ≡ n

with-there : (xs : List ℕ) (n i : ℕ) → IsRising xs → i < length xs → get_or xs i 0 ≡ n → with_number xs n ≡ xs
with-there [] n i up lt is = absurd (omega arith)
with-there (x ∷ xs) n zero up lt is =
    ap (λ o. match_ordering o (n ∷ x ∷ xs) (x ∷ xs) (x ∷ with_number xs n)) (equal n x (sym is))
with-there (x ∷ xs) n (suc i) up lt is =
    let below : x < n = omega (arith, above_at x xs i up.0 (omega arith)) in
    ap (λ o. match_ordering o (n ∷ x ∷ xs) (x ∷ xs) (x ∷ with_number xs n)) (greater n x below) ∙ ap (λ ys. x ∷ ys) (with-there xs n i up.1 (omega arith) is)

without-there : (xs : List ℕ) (n i : ℕ) → IsRising xs → i < length xs → get_or xs i 0 ≡ n → without_number xs n ≡ remove xs i
without-there [] n i up lt is = absurd (omega arith)
without-there (x ∷ xs) n zero up lt is =
    ap (λ o. cond (is_eq o) xs (x ∷ without_number xs n)) (equal n x (sym is))
without-there (x ∷ xs) n (suc i) up lt is =
    let below : x < n = omega (arith, above_at x xs i up.0 (omega arith)) in
    ap (λ o. cond (is_eq o) xs (x ∷ without_number xs n)) (greater n x below) ∙ ap (λ ys. x ∷ ys) (without-there xs n i up.1 (omega arith) is)

has-there : (xs : List ℕ) (n i : ℕ) → i < length xs → get_or xs i 0 ≡ n → has xs n ≡ true
has-there [] n i lt is = absurd (omega arith)
has-there (x ∷ xs) n zero lt is = or_first (x == n) (has xs n) (same x n is)
has-there (x ∷ xs) n (suc i) lt is = or_second (x == n) (has xs n) (has-there xs n i (omega arith) is)

-- ---- a number that is not

record IsGap (xs : List ℕ) (n i : ℕ) : Type 0 where
  within : i ≤ length xs
  below : (k : ℕ) → k < i → get_or xs k 0 < n
  above : (k : ℕ) → i ≤ k → k < length xs → n < get_or xs k 0

IsGap-tail : (x : ℕ) (xs : List ℕ) (n i : ℕ) → IsGap (x ∷ xs) n (suc i) → IsGap xs n i
IsGap-tail x xs n i gap = record {
  within = omega (arith, gap.within);
  below = λ k lt. gap.below (suc k) (omega arith);
  above = λ k le lt. gap.above (suc k) (omega arith) (omega arith);
}

with-gap : (xs : List ℕ) (n i : ℕ) → IsGap xs n i → with_number xs n ≡ insert xs i n
with-gap [] n zero gap = refl
with-gap [] n (suc i) gap = absurd (omega (arith, gap.within))
with-gap (x ∷ xs) n zero gap =
    ap (λ o. match_ordering o (n ∷ x ∷ xs) (x ∷ xs) (x ∷ with_number xs n)) (less n x (gap.above zero (omega arith) (omega arith)))
with-gap (x ∷ xs) n (suc i) gap =
    ap (λ o. match_ordering o (n ∷ x ∷ xs) (x ∷ xs) (x ∷ with_number xs n)) (greater n x (gap.below zero (omega arith))) ∙ ap (λ ys. x ∷ ys) (with-gap xs n i (IsGap-tail x xs n i gap))

-- no place has the number
abbrev IsNowhere : List ℕ → ℕ → Type 0
IsNowhere xs n = (k : ℕ) → k < length xs → get_or xs k 0 ≡ n → ⊥

nowhere : (xs : List ℕ) (n i : ℕ) → IsGap xs n i → IsNowhere xs n
nowhere xs n i gap k lt is = grind (arith, gap.below k, gap.above k)

has-nowhere : (xs : List ℕ) (n : ℕ) → IsNowhere xs n → has xs n ≡ false
has-nowhere [] n absent = refl
has-nowhere (x ∷ xs) n absent =
    or_none (x == n) (has xs n) (differ x n (λ is. absent zero (omega arith) is)) (has-nowhere xs n (λ k lt is. absent (suc k) (omega arith) is))

without-nowhere : (xs : List ℕ) (n : ℕ) → IsNowhere xs n → without_number xs n ≡ xs
without-nowhere [] n absent = refl
without-nowhere (x ∷ xs) n absent =
    ap (λ t. cond t xs (x ∷ without_number xs n)) (differ_cmp x n (λ is. absent zero (omega arith) is)) ∙ ap (λ ys. x ∷ ys) (without-nowhere xs n (λ k lt is. absent (suc k) (omega arith) is))

-- ---- after a binary search

module _ (xs : List ℕ) (up : IsRising xs) (n : ℕ) where
  placed : (i : ℕ) → IsBinarySearchResult (λ y. nat_cmp y n) xs (Ok i) → IsPlace xs n i
  placed i h = let s = searched xs n (Ok i) h (rises xs up) in record { within = s.0; here = s.1 }

  gapped : (i : ℕ) → IsBinarySearchResult (λ y. nat_cmp y n) xs (Err i) → IsGap xs n i
  gapped i h = let s = searched xs n (Err i) h (rises xs up) in record { within = s.0; below = s.1; above = s.2 }

  pub has-searched : (r : Result ℕ ℕ) → IsBinarySearchResult (λ y. nat_cmp y n) xs r → is_ok r ≡ has xs n
  has-searched (Ok i) h = let p = placed i h in sym (has-there xs n i p.within p.here)
  has-searched (Err i) h = sym (has-nowhere xs n (nowhere xs n i (gapped i h)))

  pub with-found : (i : ℕ) → IsBinarySearchResult (λ y. nat_cmp y n) xs (Ok i) → xs ≡ with_number xs n
  with-found i h = let p = placed i h in sym (with-there xs n i up p.within p.here)

  pub with-missed : (i : ℕ) → IsBinarySearchResult (λ y. nat_cmp y n) xs (Err i) → insert xs i n ≡ with_number xs n
  with-missed i h = sym (with-gap xs n i (gapped i h))

  pub without-found : (i : ℕ) → IsBinarySearchResult (λ y. nat_cmp y n) xs (Ok i) → remove xs i ≡ without_number xs n
  without-found i h = let p = placed i h in sym (without-there xs n i up p.within p.here)

  pub without-missed : (i : ℕ) → IsBinarySearchResult (λ y. nat_cmp y n) xs (Err i) → xs ≡ without_number xs n
  without-missed i h = sym (without-nowhere xs n (nowhere xs n i (gapped i h)))

pub when_true : (t : Bool) (new a b : List ℕ) → t ≡ true → new ≡ (cond t a b) → new ≡ a
when_true true new a b h e = e
when_true false new a b h e = cc

-- ---- which numbers are in a set after one more

has-with_equal : (x n m : ℕ) (b : Bool) → n ≡ x → (x == m || b) ≡ (n == m || (x == m || b))
has-with_equal x n m b is = rw is (again (x == m) b)
  where
    again : (a b : Bool) → (a || b) ≡ (a || (a || b))
    again true b = refl
    again false b = refl

or_swap : (a b c : Bool) → (a || (b || c)) ≡ (b || (a || c))
or_swap true true c = refl
or_swap true false c = refl
or_swap false b c = refl

pub has-with_number : (xs : List ℕ) (n m : ℕ) → has (with_number xs n) m ≡ (n == m || has xs m)
has-with_number [] n m = refl
has-with_number (x ∷ xs) n m =
    at_ordered (λ ys. has ys m ≡ (n == m || (x == m || has xs m))) (nat_cmp n x) (n < x) (n ≡ x) (x < n) (n ∷ x ∷ xs) (x ∷ xs)
    (x ∷ with_number xs n) (ranked n x (nat_cmp n x) refl) (λ _. refl) (λ is. has-with_equal x n m (has xs m) is) (λ _. ap (λ b. x == m || b) (has-with_number xs n m) ∙ or_swap (x == m) (n == m) (has xs m))

pub has-with_numbers : (xs ns : List ℕ) (m : ℕ) → has (fold with_number xs ns) m ≡ (has xs m || has ns m)
has-with_numbers xs [] m = or_nothing (has xs m)
  where
    or_nothing : (a : Bool) → a ≡ (a || false)
    or_nothing true = refl
    or_nothing false = refl
has-with_numbers xs (n ∷ ns) m =
    has-with_numbers (with_number xs n) ns m ∙ ap (λ b. b || has ns m) (has-with_number xs n m) ∙ moved (n == m) (has xs m) (has ns m)
  where
    moved : (a b c : Bool) → ((a || b) || c) ≡ (b || (a || c))
    moved true true c = refl
    moved true false c = refl
    moved false b c = refl

pub IsRising-with_numbers : (xs ns : List ℕ) → IsRising xs → IsRising (fold with_number xs ns)
IsRising-with_numbers xs [] up = up
IsRising-with_numbers xs (n ∷ ns) up = IsRising-with_numbers (with_number xs n) ns (IsRising-with xs n up)

-- ---- which numbers are in exactly one of two sets

above-none : (n m : ℕ) (xs : List ℕ) → AllByRecursion (λ k. n < k) xs → m ≤ n → has xs m ≡ false
above-none n m [] above le = refl
above-none n m (x ∷ xs) above le =
    or_none (x == m) (has xs m) (differ x m (λ same. omega (arith, same, above.0, le))) (above-none n m xs above.1 le)

has-without_number : (xs : List ℕ) (n m : ℕ) → IsRising xs → has (without_number xs n) m ≡ (if n == m then false else has xs m)
has-without_number [] n m up = nothing (n == m)
  where
    nothing : (b : Bool) → false ≡ (if b then false else false)
    nothing true = refl
    nothing false = refl
has-without_number (x ∷ xs) n m up =
    elim (cases_eq n x) [
      | inl here ↦
          ap (λ o. has (cond (is_eq o) xs (x ∷ without_number xs n)) m) (equal n x here) ∙
          elim (cases_eq n m) [
            | inl is ↦ above-none x m xs up.0 (omega arith) ∙ ap (λ b. if b then false else (x == m || has xs m)) (sym (same n m is))
            | inr other ↦
                ap (λ b. b || has xs m) (sym (differ x m (λ is. other (omega arith)))) ∙
                ap (λ b. if b then false else (x == m || has xs m)) (sym (differ n m other))
          ]
      | inr other ↦
          ap (λ b. has (cond b xs (x ∷ without_number xs n)) m) (differ_cmp x n (λ is. other (omega arith))) ∙
          ap (λ b. x == m || b) (has-without_number xs n m up.1) ∙
          elim (cases_eq n m) [
            | inl is ↦
                ap₂ (λ a b. a || (if b then false else has xs m)) (differ x m (λ hit. other (omega arith))) (same n m is) ∙
                ap (λ b. if b then false else (x == m || has xs m)) (sym (same n m is))
            | inr away ↦
                ap (λ b. x == m || (if b then false else has xs m)) (differ n m away) ∙
                ap (λ b. if b then false else (x == m || has xs m)) (sym (differ n m away))
          ]
    ]

IsRising-turned : (xs : List ℕ) (n : ℕ) → IsRising xs → IsRising (turned xs n)
IsRising-turned xs n up = at_cond IsRising (has xs n) (without_number xs n) (with_number xs n) (IsRising-without xs n up) (IsRising-with xs n up)

has-turned : (xs : List ℕ) (n m : ℕ) → IsRising xs → has (turned xs n) m ≡ (if n == m then not (has xs m) else has xs m)
has-turned xs n m up = by (has xs n) refl
  where
    by : (b : Bool) → has xs n ≡ b → has (if b then without_number xs n else with_number xs n) m ≡ (if n == m then not (has xs m) else has xs m)
    by true there =
        has-without_number xs n m up ∙
        elim (cases_eq n m) [
          | inl is ↦ ap₂ (λ b c. if b then c else has xs m) (same n m is) (ap not (sym there ∙ ap (has xs) is)) ∙
              ap (λ b. if b then not (has xs m) else has xs m) (sym (same n m is))
          | inr other ↦ ap (λ b. if b then false else has xs m) (differ n m other) ∙ ap (λ b. if b then not (has xs m) else has xs m) (sym (differ n m other))
        ]
    by false away =
        has-with_number xs n m ∙
        elim (cases_eq n m) [
          | inl is ↦ ap₂ (λ b c. b || c) (same n m is) refl ∙ ap not (sym (sym (ap (has xs) is) ∙ away)) ∙
              ap (λ b. if b then not (has xs m) else has xs m) (sym (same n m is))
          | inr other ↦ ap (λ b. b || has xs m) (differ n m other) ∙ ap (λ b. if b then not (has xs m) else has xs m) (sym (differ n m other))
        ]

-- in the flipped set is what is in exactly one of the two
pub has-flipped : (xs others : List ℕ) (m : ℕ) → IsRising xs → IsRising others →
    has (flipped xs others) m ≡ (if has others m then not (has xs m) else has xs m)
has-flipped xs [] m up others_up = refl
has-flipped xs (n ∷ others) m up others_up =
    has-flipped (turned xs n) others m (IsRising-turned xs n up) others_up.1 ∙
    elim (cases_eq n m) [
      | inl is ↦
          ap₂ (λ b c. if b then not c else c) (above-none n m others others_up.0 (omega arith)) (has-turned xs n m up) ∙
          ap (λ b. if b then not (has xs m) else has xs m) (same n m is) ∙
          ap (λ b. if b || has others m then not (has xs m) else has xs m) (sym (same n m is))
      | inr other ↦
          ap (λ c. if has others m then not c else c) (has-turned xs n m up ∙ ap (λ b. if b then not (has xs m) else has xs m) (differ n m other)) ∙
          ap (λ b. if b || has others m then not (has xs m) else has xs m) (sym (differ n m other))
    ]

pub IsRising-flipped : (xs others : List ℕ) → IsRising xs → IsRising (flipped xs others)
IsRising-flipped xs [] up = up
IsRising-flipped xs (n ∷ others) up = IsRising-flipped (turned xs n) others (IsRising-turned xs n up)
