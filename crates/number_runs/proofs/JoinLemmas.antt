-- Runs and numbers joined in order.
use Rattle.std.proofs.Common.{◌≡◌, ℕ, ◌+◌, ◌<◌, ◌≤◌, Bool, true, false, ◌||◌, ◌==◌, List, [], ◌∷◌, refl, ap, sym, ◌∙◌, arith}
use Rattle.std.specs.List.{AllByRecursion}
use Rattle.std.specs.List.Sorted.{IsStrictlySortedBy}
use Rattle.std.specs.Ordering.{nat_cmp}
use Rattle.std.proofs.Common.{Less}
use Rattle.std.proofs.lemmas.Cmp.{ranked}
use Rattle.plain_text.specs.Numbers.{has, IsRising}
use Rattle.plain_text.proofs.callers.ListLemmas.{AllByRecursion-weaker}
use Rattle.number_runs.specs.declared.run.NumberRun.{NumberRun}
use Rattle.number_runs.specs.Runs.{is_in, is_in_some, last_start, AreSeparate}
use Rattle.number_runs.specs.Inner.{Adds, AddsUpTo, AddsAll, AreJoined}
use Rattle.number_runs.proofs.RunLemmas.{is_in-one, or_assoc, AreSeparate-weaker}

or_none : (a : Bool) → a ≡ (a || false)
or_none true = refl
or_none false = refl

-- ---- some runs added to others

-- what is added so far, and what is left starts after the last of it
pub record IsTaking (old new more left : List NumberRun) : Type 0 where
  pub apart : AreSeparate 0 new
  pub later : AreSeparate (last_start 0 new) left
  pub numbers : (n : ℕ) → (is_in_some new n || is_in_some left n) ≡ (is_in_some old n || is_in_some more n)

pub taking_none : (old more : List NumberRun) → AreSeparate 0 old → AreSeparate (last_start 0 old) more → IsTaking old old more more
taking_none old more apart later = record { apart = apart; later = later; numbers = λ n. refl }

pub taking_one : (old new newer more left rest : List NumberRun) (run : NumberRun) → IsTaking old new more left → left ≡ run ∷ rest → Adds 0 0 new newer run → IsTaking old newer more rest
taking_one old new newer more left rest run so_far is adds =
    let own : AreSeparate (last_start 0 new) (run ∷ rest) = rw is at so_far.later in
    record {
      apart = adds.apart;
      later = AreSeparate-weaker (last_start 0 newer) (run.end + 2) rest own.2 (omega (arith, adds.by, own.1));
      numbers = λ n. ap (λ b. b || is_in_some rest n) (adds.numbers n) ∙ sym (or_assoc (is_in_some new n) (is_in n run) (is_in_some rest n)) ∙
          ap (λ xs. is_in_some new n || is_in_some xs n) (sym is) ∙ so_far.numbers n;
    }

-- the first run that is left
pub next_of : (low : ℕ) (left rest : List NumberRun) (run : NumberRun) → AreSeparate low left → left ≡ run ∷ rest → AreSeparate low (run ∷ rest)
next_of low left rest run apart is = rw is at apart

pub taken_all : (old new more left : List NumberRun) (number : ℕ) → IsTaking old new more left → last_start 0 new ≤ number → left ≡ [] → AddsUpTo old new more left number
taken_all old new more left number so_far by is = record {
  apart = so_far.apart;
  by = by;
  beyond = rw is tt;
  numbers = so_far.numbers;
}

pub taken_some : (old new more left rest : List NumberRun) (run : NumberRun) (number : ℕ) → IsTaking old new more left → last_start 0 new ≤ number → left ≡ run ∷ rest → number < run.start → AddsUpTo old new more left number
taken_some old new more left rest run number so_far by is lt =
    let own = next_of (last_start 0 new) left rest run so_far.later is in
    record {
      apart = so_far.apart;
      by = by;
      beyond = rw is (omega arith, own.1, own.2);
      numbers = so_far.numbers;
    }

pub added_all : (old new more left : List NumberRun) → IsTaking old new more left → left ≡ [] → AddsAll old new more
added_all old new more left so_far is = record {
  apart = so_far.apart;
  numbers = λ n. or_none (is_in_some new n) ∙ ap (λ xs. is_in_some new n || is_in_some xs n) (sym is) ∙ so_far.numbers n;
}

-- ---- numbers and runs joined

-- what is joined so far, with the runs and the numbers that are left
pub record IsJoined (old new left : List NumberRun) (rest all : List ℕ) : Type 0 where
  pub apart : AreSeparate 0 new
  pub later : AreSeparate (last_start 0 new) left
  pub rising : IsRising rest
  pub by : AllByRecursion (λ n. last_start 0 new ≤ n) rest
  pub numbers : (n : ℕ) → ((is_in_some new n || is_in_some left n) || has rest n) ≡ (is_in_some old n || has all n)

AllByRecursion-all : (P : ℕ → Type 0) → ((n : ℕ) → P n) → (xs : List ℕ) → AllByRecursion P xs
AllByRecursion-all P all [] = tt
AllByRecursion-all P all (x ∷ xs) = (all x, AllByRecursion-all P all xs)

swapped : (a b c : Bool) → ((a || c) || b) ≡ ((a || b) || c)
swapped true b c = refl
swapped false true true = refl
swapped false true false = refl
swapped false false true = refl
swapped false false false = refl

pub joined_none : (old : List NumberRun) (all : List ℕ) → AreSeparate 0 old → IsRising all → IsJoined old [] old all all
joined_none old all apart rising = record {
  apart = tt;
  later = apart;
  rising = rising;
  by = AllByRecursion-all (λ n. 0 ≤ n) (λ n. omega arith) all;
  numbers = λ n. refl;
}

-- no run so far starts after the next number
pub next_by : (old new left : List NumberRun) (number : ℕ) (from rest all : List ℕ) → IsJoined old new left from all → from ≡ number ∷ rest → last_start 0 new ≤ number
next_by old new left number from rest all before is =
    let so_far : IsJoined old new left (number ∷ rest) all = rw is at before in
    so_far.by.0

-- a number, and before it the runs that start by it
pub joined_one : (old new newer newest left less : List NumberRun) (number : ℕ) (from rest all : List ℕ) → IsJoined old new left from all → from ≡ number ∷ rest → AddsUpTo new newer left less number → Adds 0 0 newer newest (record { start = number; end = number }) → IsJoined old newest less rest all
joined_one old new newer newest left less number from rest all before is runs adds =
    let so_far : IsJoined old new left (number ∷ rest) all = rw is at before in
    record {
      apart = adds.apart;
      later = AreSeparate-weaker (last_start 0 newest) (number + 1) less runs.beyond (omega (arith, adds.by));
      rising = so_far.rising.1;
      by = AllByRecursion-weaker (λ n. number < n) (λ n. last_start 0 newest ≤ n) (λ n lt. omega (arith, lt, adds.by)) rest so_far.rising.0;
      numbers = λ n.
          ap (λ b. (b || is_in_some less n) || has rest n) (adds.numbers n ∙ ap (λ b. is_in_some newer n || b) (is_in-one number n)) ∙
          ap (λ b. b || has rest n) (swapped (is_in_some newer n) (is_in_some less n) (number == n)) ∙
          ap (λ b. (b || number == n) || has rest n) (runs.numbers n) ∙
          sym (or_assoc (is_in_some new n || is_in_some left n) (number == n) (has rest n)) ∙ so_far.numbers n;
    }

-- all of them
pub joined_all : (old new newest left : List NumberRun) (rest all : List ℕ) → IsJoined old new left rest all → rest ≡ [] → AddsAll new newest left → AreJoined old newest all
joined_all old new newest left rest all before is adds =
    let so_far : IsJoined old new left [] all = rw is at before in
    record { apart = adds.apart; numbers = λ n. adds.numbers n ∙ or_none _ ∙ so_far.numbers n }

-- ---- the keys of a set

pub rising_of_sorted : (xs : List ℕ) → IsStrictlySortedBy nat_cmp xs → IsRising xs
unfolding IsStrictlySortedBy
rising_of_sorted [] sorted = tt
rising_of_sorted (x ∷ xs) sorted =
    (AllByRecursion-weaker (λ y. nat_cmp x y ≡ Less) (λ y. x < y) (λ y is. ranked x y Less (sym is)) xs sorted.0, rising_of_sorted xs sorted.1)
