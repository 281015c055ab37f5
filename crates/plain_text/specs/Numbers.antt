-- Sets of numbers, kept as lists that rise.
use Rattle.std.specs.Prelude.{ℕ, ◌<◌, Bool, if◌then◌else◌, ◌==◌, List, [], ◌∷◌}
use Rattle.std.specs.List.{list_any, fold, AllByRecursion}
use Rattle.std.specs.Ordering.{nat_cmp}
use Rattle.std.specs.Set.{remove_key}
use Rattle.std.specs.BTreeSet.{insert_key}
use Rattle.std.specs.BTreeMap.{is_at}

-- whether the number is in the list
abbrev pub has : List ℕ → ℕ → Bool
has numbers n = list_any (λ m. m == n) numbers

-- each number is below all that follow it
abbrev pub IsRising : List ℕ → Type 0
IsRising [] = Unit {0}
IsRising (n ∷ numbers) = AllByRecursion (λ m. n < m) numbers × IsRising numbers

-- the numbers and this one, in order
abbrev pub with_number : List ℕ → ℕ → List ℕ
with_number numbers n = insert_key nat_cmp numbers n

-- the numbers but this one
abbrev pub without_number : List ℕ → ℕ → List ℕ
without_number numbers n = remove_key (is_at (nat_cmp n)) numbers

-- the numbers with this one where it is not among them, and without it where it is
abbrev pub turned : List ℕ → ℕ → List ℕ
turned numbers n = if has numbers n then without_number numbers n else with_number numbers n

-- the numbers that are in exactly one of two sets
abbrev pub flipped : List ℕ → List ℕ → List ℕ
flipped numbers others = fold turned numbers others
