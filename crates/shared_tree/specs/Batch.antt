-- Leaves of shared records, and the sum that counts them.
use Rattle.std.specs.Prelude.{ℕ, ◌+◌, ◌^◌, Bool, List, length, refl}
use Rattle.std.proofs.Common.{ap, ltb, zero-add, add-zero, add_assoc, arith, length-append}
use Rattle.std.proofs.lemmas.Bool.{lt-ltb, ltb-true}
use Rattle.shared_tree.specs.declared.batch.Tally.{Tally}
use Rattle.shared_tree.specs.Laws.{Adds, Sums}

-- a number of records
abbrev pub tally : ℕ → Tally
tally n = record { records = n }

-- the records of both
abbrev pub both : Tally → Tally → Tally
both a b = tally (a.records + b.records)

-- few enough to be counted
abbrev pub is_few : Tally → Bool
is_few a = ltb a.records (2 ^ 64)

-- the number of these
abbrev pub tally_of : {X : Type 0} → List X → Tally
tally_of items = tally (length items)

pub tallies : Adds (tally 0) both is_few (λ a. a.records)
tallies = record {
  left_zero = λ a. ap tally (zero-add a.records);
  right_zero = λ a. ap tally (add-zero a.records);
  grouped = λ a b c. ap tally (add_assoc a.records b.records c.records);
  zero_fits = refl;
  left_fits = λ a b few. lt-ltb _ _ (omega (arith, ltb-true (a.records + b.records) (2 ^ 64) few));
  right_fits = λ a b few. lt-ltb _ _ (omega (arith, ltb-true (a.records + b.records) (2 ^ 64) few));
  none = refl;
  counts = λ a b. refl;
  small = λ a few. ltb-true a.records (2 ^ 64) few;
}

pub tallied : {X : Type 0} → Sums {Item = X} tally_of (tally 0) both (λ a. a.records)
tallied = record {
  empty = refl;
  joined = λ xs ys. ap tally (length-append xs ys);
  counts = λ xs. refl;
}
