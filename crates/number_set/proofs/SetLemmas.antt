-- Which numbers are in a part of a rising list, and a number put in and taken out again.
use Rattle.std.proofs.Common.{◌≡◌, ℕ, zero, suc, ◌+◌, ◌<◌, ◌≤◌, Bool, true, false, cond, if◌then◌else◌, not, ◌||◌, ◌==◌, List, [], ◌∷◌, ◌++◌, length, take, drop, get_or, is_eq, nat_cmp, Less, Equal, Greater, refl, ap, sym, ◌∙◌, inl, inr, arith}
use Rattle.std.specs.List.{AllByRecursion}
use Rattle.std.specs.Ordering.{match_ordering}
use Rattle.std.proofs.lemmas.Bool.{cases_eq, cases_lt, or_cases, or_left, or_right, eqb-true, eq-eqb}
use Rattle.std.proofs.lemmas.Bool.Decides.{nat_tests}
use Rattle.std.proofs.lemmas.List.{take-append-drop, take_more, drop_more}
use Rattle.std.proofs.lemmas.List.Folds.{list_any-append}
use Rattle.plain_text.specs.Numbers.{has, with_number, without_number, IsRising}
use Rattle.plain_text.proofs.callers.NumberLemmas.{differ, has-flipped}

less : (a b : ℕ) → a < b → nat_cmp a b ≡ Less
less a b h = grind (arith, nat_tests)

equal : (a b : ℕ) → a ≡ b → nat_cmp a b ≡ Equal
equal a b h = grind (arith, nat_tests)

greater : (a b : ℕ) → b < a → nat_cmp a b ≡ Greater
greater a b h = grind (arith, nat_tests)

pub no : {X : Type 0} (b : Bool) → b ≡ true → b ≡ false → X
no true is gone = absurd (cc)
no false is gone = absurd (cc)

-- ---- which numbers are in a list

pub has-append : (xs ys : List ℕ) (m : ℕ) → has (xs ++ ys) m ≡ (has xs m || has ys m)
has-append xs ys m = list_any-append (λ x. x == m) xs ys

pub has-one : (n m : ℕ) → has (n ∷ []) m ≡ true → n ≡ m
has-one n m there =
    elim (or_cases (n == m) false there) [ inl is ↦ eqb-true n m is | inr none ↦ no false none refl ]

pub has-own : (n : ℕ) (xs : List ℕ) → has (n ∷ xs) n ≡ true
has-own n xs = or_left (n == n) (has xs n) (eq-eqb n n refl)

pub has-take : (k : ℕ) (xs : List ℕ) (m : ℕ) → has (take k xs) m ≡ true → has xs m ≡ true
has-take k xs m there =
    ap (λ ys. has ys m) (sym (take-append-drop k xs)) ∙ has-append (take k xs) (drop k xs) m ∙ or_left (has (take k xs) m) (has (drop k xs) m) there

pub has-drop : (k : ℕ) (xs : List ℕ) (m : ℕ) → has (drop k xs) m ≡ true → has xs m ≡ true
has-drop k xs m there =
    ap (λ ys. has ys m) (sym (take-append-drop k xs)) ∙ has-append (take k xs) (drop k xs) m ∙ or_right (has (take k xs) m) (has (drop k xs) m) there

-- what is not known to be there is not there
pub absent : (b : Bool) → (b ≡ true → ⊥) → b ≡ false
absent true not_there = absurd (not_there refl)
absent false not_there = refl

-- ---- rising lists

pub above : (n m : ℕ) (xs : List ℕ) → AllByRecursion (λ k. n < k) xs → has xs m ≡ true → n < m
above n m [] all there = no false there refl
above n m (x ∷ xs) all there =
    elim (or_cases (x == m) (has xs m) there) [
      | inl is ↦ omega (arith, eqb-true x m is, all.0)
      | inr later ↦ above n m xs all.1 later
    ]

pub above-all : (n : ℕ) (xs : List ℕ) → ((m : ℕ) → has xs m ≡ true → n < m) → AllByRecursion (λ k. n < k) xs
above-all n [] all = tt
above-all n (x ∷ xs) all = (all x (has-own x xs), above-all n xs (λ m there. all m (or_right (x == m) (has xs m) there)))

-- of a rising list, the numbers before a cut are below those after it
pub parted : (k : ℕ) (xs : List ℕ) (a b : ℕ) → IsRising xs → has (take k xs) a ≡ true → has (drop k xs) b ≡ true → a < b
parted zero xs a b up there after = no false there refl
parted (suc k) [] a b up there after = no false there refl
parted (suc k) (x ∷ xs) a b up there after =
    elim (or_cases (x == a) (has (take k xs) a) there) [
      | inl is ↦ omega (arith, eqb-true x a is, above x b xs up.0 (has-drop k xs b after))
      | inr later ↦ parted k xs a b up.1 later after
    ]

pub IsRising-take : (k : ℕ) (xs : List ℕ) → IsRising xs → IsRising (take k xs)
IsRising-take zero xs up = tt
IsRising-take (suc k) [] up = tt
IsRising-take (suc k) (x ∷ xs) up = (above-all x (take k xs) (λ m there. above x m xs up.0 (has-take k xs m there)), IsRising-take k xs up.1)

pub IsRising-drop : (k : ℕ) (xs : List ℕ) → IsRising xs → IsRising (drop k xs)
IsRising-drop zero xs up = up
IsRising-drop (suc k) [] up = tt
IsRising-drop (suc k) (x ∷ xs) up = IsRising-drop k xs up.1

pub IsRising-end : (xs : List ℕ) (n : ℕ) → IsRising xs → ((m : ℕ) → has xs m ≡ true → m < n) → IsRising (xs ++ n ∷ [])
IsRising-end [] n up below = (tt, tt)
IsRising-end (x ∷ xs) n up below = (
  above-all x (xs ++ n ∷ []) (λ m there. elim (or_cases (has xs m) (has (n ∷ []) m) (sym (has-append xs (n ∷ []) m) ∙ there)) [
    | inl old ↦ above x m xs up.0 old
    | inr new ↦ omega (arith, has-one n m new, below x (has-own x xs))
  ]),
  IsRising-end xs n up.1 (λ m there. below m (or_right (x == m) (has xs m) there)),
)

-- a rising list of numbers from 1 to n has at most n of them
pub few-rising : (n : ℕ) (xs : List ℕ) → IsRising xs → ((m : ℕ) → has xs m ≡ true → (1 ≤ m) × (m ≤ n)) → length xs ≤ n
few-rising n [] up all = omega arith
few-rising n (x ∷ xs) up all =
    omega (arith, all x (has-own x xs), more x xs up.0 up.1 (λ m there. all m (or_right (x == m) (has xs m) there)) (all x (has-own x xs)))
  where
    more : (low : ℕ) (ys : List ℕ) → AllByRecursion (λ k. low < k) ys → IsRising ys → ((m : ℕ) → has ys m ≡ true → (1 ≤ m) × (m ≤ n)) → (1 ≤ low) × (low ≤ n) → length ys + low ≤ n
    more low [] over rising each own = omega (arith, own)
    more low (y ∷ ys) over rising each own =
        omega (arith, over.0, more y ys rising.0 rising.1 (λ m there. each m (or_right (y == m) (has ys m) there)) (each y (has-own y ys)))

-- ---- a number put in and taken out again

-- which numbers are left when one of them is taken out
pub has-without : (xs : List ℕ) (n m : ℕ) → IsRising xs → has xs n ≡ true → has (without_number xs n) m ≡ (if n == m then false else has xs m)
has-without xs n m up there =
    ap (λ t. has (if t then without_number xs n else with_number xs n) m) (sym there) ∙ has-flipped xs (n ∷ []) m up (tt, tt) ∙
    elim (cases_eq n m) [
      | inl is ↦ ap (λ t. if t || false then not (has xs m) else has xs m) (eq-eqb n m is) ∙ ap not (ap (has xs) (sym is) ∙ there) ∙ ap (λ t. if t then false else has xs m) (sym (eq-eqb n m is))
      | inr other ↦ ap (λ t. if t || false then not (has xs m) else has xs m) (differ n m other) ∙ ap (λ t. if t then false else has xs m) (sym (differ n m other))
    ]

pub in-without : (xs : List ℕ) (n m : ℕ) → IsRising xs → has xs n ≡ true → has (without_number xs n) m ≡ true → has xs m ≡ true
in-without xs n m up there left =
    elim (cases_eq n m) [
      | inl is ↦ ap (has xs) (sym is) ∙ there
      | inr other ↦ ap (λ t. if t then false else has xs m) (sym (differ n m other)) ∙ sym (has-without xs n m up there) ∙ left
    ]

pub without-with : (xs : List ℕ) (n : ℕ) → has xs n ≡ false → without_number (with_number xs n) n ≡ xs
without-with [] n none = ap (λ o. cond (is_eq o) [] (n ∷ [])) (equal n n refl)
without-with (x ∷ xs) n none =
    elim (cases_eq n x) [
      | inl is ↦ no (has (x ∷ xs) n) (or_left (x == n) (has xs n) (eq-eqb x n (sym is))) none
      | inr other ↦ elim (cases_lt n x) [
        | inl lt ↦ ap (λ o. without_number (match_ordering o (n ∷ x ∷ xs) (x ∷ xs) (x ∷ with_number xs n)) n) (less n x lt) ∙ ap (λ o. cond (is_eq o) (x ∷ xs) (n ∷ without_number (x ∷ xs) n)) (equal n n refl)
        | inr ge ↦
            let over : x < n = omega (arith, other) in
            ap (λ o. without_number (match_ordering o (n ∷ x ∷ xs) (x ∷ xs) (x ∷ with_number xs n)) n) (greater n x over) ∙
            ap (λ o. cond (is_eq o) (with_number xs n) (x ∷ without_number (with_number xs n) n)) (greater n x over) ∙
            ap (λ ys. x ∷ ys) (without-with xs n (absent (has xs n) (λ there. no (has (x ∷ xs) n) (or_right (x == n) (has xs n) there) none)))
      ]
    ]

with-least : (n : ℕ) (xs : List ℕ) → AllByRecursion (λ m. n < m) xs → with_number xs n ≡ n ∷ xs
with-least n [] all = refl
with-least n (x ∷ xs) all = ap (λ o. match_ordering o (n ∷ x ∷ xs) (x ∷ xs) (x ∷ with_number xs n)) (less n x all.0)

pub with-without : (xs : List ℕ) (n : ℕ) → IsRising xs → has xs n ≡ true → with_number (without_number xs n) n ≡ xs
with-without [] n up there = no false there refl
with-without (x ∷ xs) n up there =
    elim (cases_eq n x) [
      | inl is ↦
          ap (λ o. with_number (cond (is_eq o) xs (x ∷ without_number xs n)) n) (equal n x is) ∙
          with-least n xs (above-all n xs (λ m later. omega (arith, above x m xs up.0 later))) ∙ ap (λ y. y ∷ xs) is
      | inr other ↦
          let later : has xs n ≡ true = elim (or_cases (x == n) (has xs n) there) [ inl is ↦ absurd (other (sym (eqb-true x n is))) | inr later ↦ later ] in
          let over : x < n = above x n xs up.0 later in
          ap (λ o. with_number (cond (is_eq o) xs (x ∷ without_number xs n)) n) (greater n x over) ∙
          ap (λ o. match_ordering o (n ∷ x ∷ without_number xs n) (x ∷ without_number xs n) (x ∷ with_number (without_number xs n) n)) (greater n x over) ∙
          ap (λ ys. x ∷ ys) (with-without xs n up.1 later)
    ]

-- ---- a list put into a set one by one

with-end : (xs : List ℕ) (n : ℕ) → ((m : ℕ) → has xs m ≡ true → m < n) → with_number xs n ≡ xs ++ n ∷ []
with-end [] n all = refl
with-end (x ∷ xs) n all =
    ap (λ o. match_ordering o (n ∷ x ∷ xs) (x ∷ xs) (x ∷ with_number xs n)) (greater n x (all x (has-own x xs))) ∙
    ap (λ ys. x ∷ ys) (with-end xs n (λ m there. all m (or_right (x == m) (has xs m) there)))

pub with-taken : (xs : List ℕ) (i n : ℕ) → IsRising xs → i < length xs → n ≡ get_or xs i n → with_number (take i xs) n ≡ take (i + 1) xs
with-taken xs i n up inside own =
    let later : drop i xs ≡ get_or xs i n ∷ drop (i + 1) xs = drop_more xs i n inside in
    let longer : take (i + 1) xs ≡ take i xs ++ get_or xs i n ∷ [] = take_more xs i n inside in
    let rest : drop i xs ≡ n ∷ drop (i + 1) xs = later ∙ ap (λ y. y ∷ drop (i + 1) xs) (sym own) in
    let front : take (i + 1) xs ≡ take i xs ++ n ∷ [] = longer ∙ ap (λ y. take i xs ++ y ∷ []) (sym own) in
    let there : has (drop i xs) n ≡ true = ap (λ ys. has ys n) rest ∙ has-own n (drop (i + 1) xs) in
    with-end (take i xs) n (λ m before. parted i xs m n up before there) ∙ sym front
