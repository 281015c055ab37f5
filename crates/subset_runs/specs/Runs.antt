-- Subsets as ranges of positions. A range is its start and its end, the end not included.
use Rattle.std.specs.Prelude.{◌≡◌, ℕ, ◌+◌, ◌-◌, ◌<◌, ◌≤◌, Bool, ◌&&◌, ◌||◌, List, [], ◌∷◌, map, nat_le, nat_lt}
use Rattle.std.specs.List.{list_any, range_with_len}
use Rattle.subset_runs.specs.Subset.{count}

-- whether the range has position p
abbrev pub is_in : ℕ → ℕ × ℕ → Bool
is_in p range = nat_le range.0 p && nat_lt p range.1

-- whether one of the ranges has position p
abbrev pub is_in_some : List (ℕ × ℕ) → ℕ → Bool
is_in_some ranges p = list_any (is_in p) ranges

-- the flags of n positions from `at` on, where those in the ranges are the members
abbrev pub flags_in : List (ℕ × ℕ) → ℕ → ℕ → List Bool
flags_in ranges at n = map (is_in_some ranges) (range_with_len at n)

-- the ranges begin at `low` or later, ascend, are not empty, and no two touch
abbrev pub AreSeparate : ℕ → List (ℕ × ℕ) → Type 0
AreSeparate low [] = Unit {0}
AreSeparate low (run ∷ runs) = (low ≤ run.0) × (run.0 < run.1) × AreSeparate (run.1 + 1) runs

-- the least start of a further run
abbrev pub next_start : ℕ → List (ℕ × ℕ) → ℕ
next_start low [] = low
next_start low (run ∷ runs) = next_start (run.1 + 1) runs

-- the first run ends after `at`
abbrev pub EndsAfter : ℕ → List (ℕ × ℕ) → Type 0
EndsAfter at [] = Unit {0}
EndsAfter at (run ∷ runs) = at < run.1

-- what a subset keeps: its runs, which end within its length, and how many members they have
pub record IsStored (runs : List (ℕ × ℕ)) (len members : ℕ) : Type 0 where
  pub apart : AreSeparate 0 runs
  pub within : next_start 0 runs ≤ len + 1
  pub counted : members ≡ count (flags_in runs 0 len)

-- what a walk keeps: the runs that end after `at`, and within the length
pub record IsAhead (runs : List (ℕ × ℕ)) (at len : ℕ) : Type 0 where
  pub apart : AreSeparate 0 runs
  pub ahead : EndsAfter at runs
  pub within : next_start 0 runs ≤ len + 1
  pub reached : at ≤ len
