-- When a set agrees with what is undone on each collected group, group by group.
use Rattle.std.proofs.Common.{◌≡◌, ◌↔◌, ℕ, ◌<◌, Bool, true, false, not, ◌||◌, ◌==◌, IsTrue, is_some, Option, Some, None, List, [], ◌∷◌, nat_cmp, Less, refl, ap, ap₂, sym, ◌∙◌, arith}
use Rattle.std.specs.List.{AllByRecursion, list_any}
use Rattle.std.specs.BTreeMap.{is_at}
use Rattle.std.specs.List.Sorted.{IsStrictlySortedBy}
use Rattle.std.proofs.lemmas.Bool.{eqb-true, eq-eqb}
use Rattle.std.proofs.lemmas.Bool.Decides.{nat_tests}
use Rattle.plain_text.specs.Numbers.{has, IsRising}
use Rattle.plain_text.proofs.callers.ListLemmas.{AllByRecursion-weaker}
use Rattle.plain_edits.specs.History.{History}
use Rattle.plain_edits.specs.Collection.{is_group}
use Rattle.plain_edits.specs.Undo.{undone_now}
use Rattle.rev_list.specs.Edit.{IsKnownGroup}
use Rattle.rev_list.specs.Groups.{IsFirstEdit}
use Rattle.rev_list.proofs.ForCallers.{any_edit, no_edit}
use Rattle.rev_undo.specs.Allowed.{IsIn, IsThere}
use Rattle.rev_undo.specs.Under.{AgreesOnCollected}

both_true : (a b : Bool) → (a ≡ true → b ≡ true) → (b ≡ true → a ≡ true) → a ≡ b
both_true true b there back = sym (there refl)
both_true false true there back = back refl
both_true false false there back = refl

-- what holds of each number of a list holds of one that is in it
pub of_one : (P : ℕ → Type 0) (numbers : List ℕ) (n : ℕ) → AllByRecursion P numbers → has numbers n ≡ true → P n
of_one P [] n all there = absurd cc
of_one P (m ∷ numbers) n all there = by (m == n) refl there (of_one P numbers n all.1)
  where
    by : (own : Bool) → (m == n) ≡ own → (own || has numbers n) ≡ true → (has numbers n ≡ true → P n) → P n
    by true own some later = rw (← eqb-true m n own) all.0
    by false own some later = later some

-- and what holds of each that is in it holds of all
pub of_all : (P : ℕ → Type 0) (numbers : List ℕ) → ((n : ℕ) → has numbers n ≡ true → P n) → AllByRecursion P numbers
of_all P [] each = tt
of_all P (m ∷ numbers) each = (
  each m (ap (λ b. b || has numbers m) (eq-eqb m m refl)),
  of_all P numbers (λ n there. each n (or_more (m == n) (has numbers n) there)),
)
  where
    or_more : (a b : Bool) → b ≡ true → (a || b) ≡ true
    or_more true b is = refl
    or_more false b is = is

pub agrees_from : (h : History) (groups : List ℕ) → AllByRecursion (IsThere h) groups → AllByRecursion (IsIn h groups) (undone_now h) → AgreesOnCollected h groups
agrees_from h groups there back =
    of_all (λ group. has groups group ≡ has (undone_now h) group) h.collected (λ group collected.
    both_true (has groups group) (has (undone_now h) group)
    (λ in_it. of_one (IsThere h) groups group there in_it collected)
    (λ undone. of_one (IsIn h groups) (undone_now h) group back undone collected))

pub agrees_there : (h : History) (groups : List ℕ) → AgreesOnCollected h groups → AllByRecursion (IsThere h) groups
agrees_there h groups agrees =
    of_all (IsThere h) groups (λ group in_it collected.
    sym (of_one (λ g. has groups g ≡ has (undone_now h) g) h.collected group agrees collected) ∙ in_it)

pub agrees_back : (h : History) (groups : List ℕ) → AgreesOnCollected h groups → AllByRecursion (IsIn h groups) (undone_now h)
agrees_back h groups agrees =
    of_all (IsIn h groups) (undone_now h) (λ group undone collected.
    of_one (λ g. has groups g ≡ has (undone_now h) g) h.collected group agrees collected ∙ undone)

-- ---- the tests of one group

pub or_implies : (a b : Bool) → IsTrue (not a || b) ↔ (a ≡ true → b ≡ true)
or_implies true true = (λ is all. refl, λ all. all refl)
or_implies true false = (λ is. absurd cc, λ all. all refl)
or_implies false b = (λ is none. absurd cc, λ all. refl)

at_number : (n m : ℕ) → is_at (nat_cmp n) m ≡ (m == n)
at_number n m = grind (arith, nat_tests)

pub has_contains : (numbers : List ℕ) (n : ℕ) → list_any (is_at (nat_cmp n)) numbers ≡ has numbers n
has_contains [] n = refl
has_contains (m ∷ numbers) n = ap₂ (λ a b. a || b) (at_number n m) (has_contains numbers n)

-- a group with a first edit is known, and one without is where it is collected
pub known_some : (h : History) (group : ℕ) (found : Option ℕ) → 0 < group → IsFirstEdit h.revisions group found → is_some found ≡ true → IsKnownGroup h group
known_some h group (Some first) counts is some = (counts, ap (λ b. b || has h.collected group) (any_edit h.revisions group first counts is))
known_some h group None counts is some = absurd cc

pub known_none : (h : History) (group : ℕ) (found : Option ℕ) → 0 < group → IsFirstEdit h.revisions group found → is_some found ≡ false →
    IsTrue (has h.collected group) ↔ IsKnownGroup h group
known_none h group (Some first) counts is none = absurd cc
known_none h group None counts is none =
    let same : is_group h group ≡ has h.collected group = ap (λ b. b || has h.collected group) (no_edit h.revisions group is) in
    (λ collected. (counts, same ∙ collected), λ known. sym same ∙ known.1)

-- ---- the keys of a set

below : (n m : ℕ) → nat_cmp n m ≡ Less → n < m
below n m is = grind (arith, nat_tests)

pub keys_rise : (keys : List ℕ) → IsStrictlySortedBy nat_cmp keys → IsRising keys
unfolding IsStrictlySortedBy
keys_rise [] sorted = tt
keys_rise (n ∷ keys) sorted = (AllByRecursion-weaker (λ m. nat_cmp n m ≡ Less) (λ m. n < m) (below n) keys sorted.0, keys_rise keys sorted.1)
