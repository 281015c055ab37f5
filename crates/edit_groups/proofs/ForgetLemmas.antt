-- The retired groups as a set, and the stack as it forgets some of them one by one.
use Rattle.std.proofs.Common.{◌≡◌, ℕ, zero, suc, ◌+◌, ◌<◌, ◌≤◌, true, false, if◌then◌else◌, ◌==◌, nat_cmp, Less, Greater, List, [], ◌∷◌, ◌++◌, length, take, drop, get_or, Option, Some, None, refl, ap, sym, ◌∙◌, subst, arith, Bool, ◌||◌, cond, inl, inr}
use Rattle.std.specs.Prelude.{slice_get}
use Rattle.std.specs.List.{AllByRecursion}
use Rattle.std.specs.List.Sorted.{IsStrictlySortedBy}
use Rattle.std.specs.Ordering.{is_eq, match_ordering}
use Rattle.std.proofs.lemmas.Bool.{or_right, ne_eqb, cases_eq, eqb-true, eq-eqb}
use Rattle.std.proofs.lemmas.Bool.Decides.{nat_tests}
use Rattle.std.proofs.lemmas.List.{drop_more, take_more}
use Rattle.plain_text.specs.Numbers.{has, with_number, without_number, IsRising}
use Rattle.plain_text.proofs.callers.ListLemmas.{AllByRecursion-weaker}
use Rattle.plain_text.proofs.callers.NumberLemmas.{IsRising-without}
use Rattle.number_set.proofs.ForCallers.{few-rising, has-own, parted, above, absent}
use Rattle.undo_groups.specs.Groups.{Groups, IsStack, forgotten}

-- ---- the keys of a set

below : (n m : ℕ) → nat_cmp n m ≡ Less → n < m
below n m is = grind (arith, nat_tests)

pub keys_rise : (keys : List ℕ) → IsStrictlySortedBy nat_cmp keys → IsRising keys
unfolding IsStrictlySortedBy
keys_rise [] sorted = tt
keys_rise (n ∷ keys) sorted = (AllByRecursion-weaker (λ m. nat_cmp n m ≡ Less) (λ m. n < m) (below n) keys sorted.0, keys_rise keys sorted.1)

-- ---- all numbers of a rising list, put into a set one by one

got-within : (xs : List ℕ) (i n : ℕ) → slice_get xs i ≡ Some n → i < length xs
got-within [] i n is = absurd cc
got-within (x ∷ xs) zero n is = omega arith
got-within (x ∷ xs) (suc i) n is = omega (arith, got-within xs i n is)

got-is : (xs : List ℕ) (i n : ℕ) → slice_get xs i ≡ Some n → get_or xs i n ≡ n
got-is [] i n is = refl
got-is (x ∷ xs) zero n is = cc
got-is (x ∷ xs) (suc i) n is = got-is xs i n is

all-taken : (xs : List ℕ) (i : ℕ) → slice_get xs i ≡ None → take i xs ≡ xs
all-taken [] zero is = refl
all-taken [] (suc i) is = refl
all-taken (x ∷ xs) zero is = absurd cc
all-taken (x ∷ xs) (suc i) is = ap (λ ys. x ∷ ys) (all-taken xs i is)

pub all-taken-by : (xs : List ℕ) (i : ℕ) (found : Option ℕ) → found ≡ slice_get xs i → ((n : ℕ) → found ≡ Some n → ⊥) → take i xs ≡ xs
all-taken-by xs i None is no_more = all-taken xs i (sym is)
all-taken-by xs i (Some n) is no_more = absurd (no_more n refl)

greater : (a b : ℕ) → b < a → nat_cmp a b ≡ Greater
greater a b over = grind (arith, nat_tests)

with-end : (xs : List ℕ) (n : ℕ) → ((m : ℕ) → has xs m ≡ true → m < n) → with_number xs n ≡ xs ++ n ∷ []
with-end [] n all = refl
with-end (x ∷ xs) n all =
    ap (λ o. match_ordering o (n ∷ x ∷ xs) (x ∷ xs) (x ∷ with_number xs n)) (greater n x (all x (has-own x xs))) ∙
    ap (λ ys. x ∷ ys) (with-end xs n (λ m there. all m (or_right (x == m) (has xs m) there)))

-- one more of them
pub record IsNextTaken (xs : List ℕ) (i n : ℕ) : Type 0 where
  pub inside : i < length xs
  pub longer : with_number (take i xs) n ≡ take (i + 1) xs

pub next-taken : (xs : List ℕ) (i n : ℕ) → IsRising xs → slice_get xs i ≡ Some n → IsNextTaken xs i n
next-taken xs i n up is =
    let inside = got-within xs i n is in
    let own = got-is xs i n is in
    let rest : drop i xs ≡ n ∷ drop (i + 1) xs = drop_more xs i n inside ∙ ap (λ y. y ∷ drop (i + 1) xs) own in
    let front : take (i + 1) xs ≡ take i xs ++ n ∷ [] = take_more xs i n inside ∙ ap (λ y. take i xs ++ y ∷ []) own in
    let there : has (drop i xs) n ≡ true = ap (λ ys. has ys n) rest ∙ has-own n (drop (i + 1) xs) in
    record { inside = inside; longer = with-end (take i xs) n (λ m before. parted i xs m n up before there) ∙ sym front }

-- a stack has at most as many retired groups as were given out
pub few-retired : (s : Groups) → IsStack s → length s.retired ≤ s.given
few-retired s is = few-rising s.given s.retired is.retired_rise is.retired_given

-- ---- a rising list without a number

pub same_order : (n : ℕ) → is_eq (nat_cmp n n) ≡ true
same_order n = grind (arith, nat_tests)

other_order : (n m : ℕ) → (n ≡ m → ⊥) → is_eq (nat_cmp n m) ≡ false
other_order n m other = grind (arith, nat_tests)

either : (m x : Bool) (rest : Bool) → (m ≡ true → x ≡ false) → (x || (if m then false else rest)) ≡ (if m then false else x || rest)
either true x rest apart = ap (λ b. b || false) (apart refl)
either false x rest apart = refl

pub has-removed : (xs : List ℕ) (n m : ℕ) → IsRising xs → has (without_number xs n) m ≡ (if n == m then false else has xs m)
has-removed [] n m up = by (n == m)
  where
    by : (same : Bool) → false ≡ (if same then false else false)
    by true = refl
    by false = refl
has-removed (x ∷ xs) n m up =
    elim (cases_eq n x) [
      | inl is ↦
          ap (λ b. has (cond b xs (x ∷ without_number xs n)) m) (ap (λ k. is_eq (nat_cmp n k)) (sym is) ∙ same_order n) ∙
          elim (cases_eq n m) [
            | inl own ↦
                absent (has xs m) (λ there. absurd (omega (arith, above x m xs up.0 there, is, own))) ∙
                ap (λ b. if b then false else has (x ∷ xs) m) (sym (eq-eqb n m own))
            | inr other ↦
                ap (λ b. b || has xs m) (sym (ne_eqb x m (λ same. other (is ∙ same)))) ∙
                ap (λ b. if b then false else has (x ∷ xs) m) (sym (ne_eqb n m other))
          ]
      | inr differs ↦
          ap (λ b. has (cond b xs (x ∷ without_number xs n)) m) (other_order n x differs) ∙
          ap (λ b. x == m || b) (has-removed xs n m up.1) ∙
          either (n == m) (x == m) (has xs m) (λ own. ne_eqb x m (λ same. differs (eqb-true n m own ∙ sym same)))
    ]

-- ---- forgetting one by one

-- those that are left to forget are still retired
still_retired : (retired left : List ℕ) (group : ℕ) → IsRising retired → AllByRecursion (λ m. group < m) left →
    AllByRecursion (λ m. has retired m ≡ true) left → AllByRecursion (λ m. has (without_number retired group) m ≡ true) left
still_retired retired [] group up over all = tt
still_retired retired (next ∷ left) group up over all = (
  has-removed retired group next up ∙
      ap (λ b. if b then false else has retired next) (ne_eqb group next (λ same. absurd (omega (arith, same, over.0)))) ∙ all.0,
  still_retired retired left group up over.1 all.1,
)

-- what is left to forget: retired groups, which rise, of a stack in which all of these rise
pub record AreLeft (s : Groups) (left : List ℕ) : Type 0 where
  pub retired : AllByRecursion (λ group. has s.retired group ≡ true) left
  pub rising : IsRising left
  pub rises : IsRising s.retired

pub AreLeft-next : (s next : Groups) (group : ℕ) (left : List ℕ) → AreLeft s (group ∷ left) → next ≡ forgotten s group → AreLeft next left
AreLeft-next s next group left are is =
    subst (λ (g : Groups). AreLeft g left) (sym is) (record {
      retired = still_retired s.retired left group are.rises are.rising.0 are.retired.1;
      rising = are.rising.1;
      rises = IsRising-without s.retired group are.rises;
    })
