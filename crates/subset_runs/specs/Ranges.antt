-- Which ranges make a subset, and which of them is the first at fault.
use Rattle.std.specs.Prelude.{◌≡◌, ℕ, ◌<◌, ◌≤◌, ◌⊎◌, ◌↔◌, Bool, List, [], ◌∷◌, length, zero, suc, IsTrue, Any}
use Rattle.subset_runs.specs.Subset.{contains}

-- the range lies between `low` and `len`, and its start is not above its end
abbrev pub IsGood : ℕ → ℕ → ℕ × ℕ → Type 0
IsGood len low r = (r.0 ≤ r.1) × (low ≤ r.0) × (r.1 ≤ len)

-- the range has its start above its end, or begins below `low`, or ends past `len`
abbrev pub IsRangeFault : ℕ → ℕ → ℕ × ℕ → Type 0
IsRangeFault len low r = (r.1 < r.0) ⊎ ((r.0 < low) ⊎ (len < r.1))

-- the range with index i is the first at fault, where each has to begin at the end of the one before or later
abbrev pub IsFirstFault : ℕ → ℕ → List (ℕ × ℕ) → ℕ → Type 0
IsFirstFault len low [] i = ⊥
IsFirstFault len low (r ∷ ranges) zero = IsRangeFault len low r
IsFirstFault len low (r ∷ ranges) (suc i) = IsGood len low r × IsFirstFault len r.1 ranges i

-- no range is at fault
abbrev pub AreGood : ℕ → ℕ → List (ℕ × ℕ) → Type 0
AreGood len low [] = Unit {0}
AreGood len low (r ∷ ranges) = IsGood len low r × AreGood len r.1 ranges

-- the subset of a text of this length whose members are the positions in the ranges
pub record HasRanges (n : ℕ) (ranges : List (ℕ × ℕ)) (flags : List Bool) : Type 0 where
  pub len : length flags ≡ n
  pub members : (p : ℕ) → IsTrue (contains flags p) ↔ Any (λ r. (r.0 ≤ p) × (p < r.1)) ranges
