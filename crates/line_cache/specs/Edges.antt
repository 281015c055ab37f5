-- Where the rule of a line changes from one line to the next.
use Rattle.std.specs.Prelude.{◌≡◌, ℕ, ◌+◌, ◌<◌, Bool}
use Rattle.plain_text.specs.declared.run.Run.{Run}
use Rattle.plain_screen.specs.Plan.{is_near, is_within}

-- the test has one value on the `n` lines from `at` on
abbrev pub IsLevel : (ℕ → Bool) → ℕ → ℕ → Type 0
IsLevel test at n = (k : ℕ) → k < n → test (at + k) ≡ test at

-- the window, what is near it, and the request have each all of the `n` lines from `at` on, or none
pub record AreAlike (window request : Run) (at n : ℕ) : Type 0 where
  pub within : IsLevel (is_within window) at n
  pub near : IsLevel (is_near window) at n
  pub requested : IsLevel (is_within request) at n
