-- What private functions say.
use Rattle.std.specs.Prelude.{Bool, not, ◌&&◌, ◌||◌, ◌≡◌, ℕ, ◌+◌, ◌-◌, ◌≤◌, List, []}
use Rattle.subset_runs.specs.declared.steps.Keep.{Keep}
use Rattle.subset_runs.specs.declared.steps.Keep.TheVariants.{Either, FirstAlone, OneAlone}
use Rattle.subset_runs.specs.Runs.{AreSeparate, is_in, is_in_some, next_start}

-- whether the result has a position, by whether the first subset has it and whether the second has
abbrev pub is_kept : Keep → Bool → Bool → Bool
is_kept Either first second = first || second
is_kept FirstAlone first second = first && not second
is_kept OneAlone first second = first && not second || second && not first

-- the new runs have the positions from start to end beside those of the old ones
pub record AddsRun (low : ℕ) (old new : List (ℕ × ℕ)) (start end : ℕ) : Type 0 where
  pub apart : AreSeparate low new
  pub within : next_start low new ≡ end + 1
  pub members : (p : ℕ) → is_in_some new p ≡ (is_in_some old p || is_in p (start, end))

-- the rest of the runs has each position from `at` on that the runs have, and its first run ends after `at`
pub record IsRest (runs rest : List (ℕ × ℕ)) (at : ℕ) : Type 0 where
  pub apart : AreSeparate 0 rest
  pub within : (len : ℕ) → next_start 0 runs ≤ len + 1 → next_start 0 rest ≤ len + 1
  pub members : (p : ℕ) → at ≤ p → is_in_some rest p ≡ is_in_some runs p
