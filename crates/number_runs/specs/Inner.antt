-- What private functions say.
use Rattle.std.specs.Prelude.{◌≡◌, ℕ, ◌+◌, ◌≤◌, ◌||◌, List}
use Rattle.plain_text.specs.Numbers.{has}
use Rattle.number_runs.specs.declared.run.NumberRun.{NumberRun}
use Rattle.number_runs.specs.Runs.{is_in, is_in_some, last_start, AreSeparate}

-- the new runs have the numbers of one more run, and the last of them starts by where that one does
pub record Adds (low from : ℕ) (old new : List NumberRun) (run : NumberRun) : Type 0 where
  pub apart : AreSeparate low new
  pub by : last_start from new ≤ run.start
  pub numbers : (n : ℕ) → is_in_some new n ≡ (is_in_some old n || is_in n run)

-- the new runs have the numbers of further runs that start by a number, and those that are left start after it
pub record AddsUpTo (old new more left : List NumberRun) (number : ℕ) : Type 0 where
  pub apart : AreSeparate 0 new
  pub by : last_start 0 new ≤ number
  pub beyond : AreSeparate (number + 1) left
  pub numbers : (n : ℕ) → (is_in_some new n || is_in_some left n) ≡ (is_in_some old n || is_in_some more n)

-- the new runs have the numbers of further runs
pub record AddsAll (old new more : List NumberRun) : Type 0 where
  pub apart : AreSeparate 0 new
  pub numbers : (n : ℕ) → is_in_some new n ≡ (is_in_some old n || is_in_some more n)

-- the new runs have the numbers of the old ones and these
pub record AreJoined (old new : List NumberRun) (more : List ℕ) : Type 0 where
  pub apart : AreSeparate 0 new
  pub numbers : (n : ℕ) → is_in_some new n ≡ (is_in_some old n || has more n)
