-- How the positions of a text stand to those of the text without some of them.
use Rattle.std.specs.Prelude.{◌≡◌, ℕ, ◌+◌, Bool, true, false, List, length, take, Some, slice_get}
use Rattle.subset_runs.specs.Subset.{count, complement}

-- position p is position i of the text without the positions `by`: it is outside `by`, and i positions before it are too
pub record Renumbers (by : List Bool) (i p : ℕ) : Type 0 where
  pub outside : slice_get by p ≡ Some false
  pub before : count (complement (take p by)) ≡ i

-- the i-th position outside `by` is a member of the result exactly where i is one here, and the positions of `by` are all
-- members or all none
pub record Expands (inside : Bool) (flags by result : List Bool) : Type 0 where
  pub len : length result ≡ length by
  pub moved : (i p : ℕ) → Renumbers by i p → slice_get result p ≡ slice_get flags i
  pub added : (p : ℕ) → slice_get by p ≡ Some true → slice_get result p ≡ Some inside

-- position i of the result is a member exactly where the i-th position outside `by` is one here
pub record Shrinks (flags by result : List Bool) : Type 0 where
  pub len : length result + count by ≡ length by
  pub moved : (i p : ℕ) → Renumbers by i p → slice_get result i ≡ slice_get flags p
