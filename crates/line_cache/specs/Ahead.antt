-- What a plan has ahead of it: the lines that stay from one index on, and the old lines.
use Rattle.std.specs.Prelude.{◌≡◌, ℕ, ◌+◌, ◌<◌, ◌≤◌, ◌^◌, Bool, List, [], ◌∷◌, length, drop, Option, None, Some, ⊤}
use Rattle.line_cache.specs.Stays.{partner_by}
use Rattle.line_cache.specs.declared.stay.Stay.{Stay}

-- the first run ends behind this index
abbrev pub EndsPast : ℕ → List Stay → Type 0
EndsPast at [] = ⊤
EndsPast at (stay ∷ stays) = at < stay.new + stay.n

-- the ends of all runs on the new side are numbers of the machine
abbrev pub FitsNumbers : List Stay → Type 0
FitsNumbers [] = ⊤
FitsNumbers (stay ∷ stays) = (stay.new + stay.n < 2 ^ 64) × FitsNumbers stays

-- the partner of the line so many lines on
abbrev pub moved_by : ℕ → Option (ℕ × Bool) → Option (ℕ × Bool)
moved_by k None = None
moved_by k (Some (old, same)) = Some (old + k, same)

-- old lines in a walk over them: so many are done with, and which of the others are valid
pub record Ahead : Type 0 where
  pub done : ℕ
  pub truths : List Bool

-- they are what is left of these
abbrev pub IsLeftOf : List Bool → Ahead → Type 0
IsLeftOf all ahead = (ahead.done + length ahead.truths ≡ length all) × (drop ahead.done all ≡ ahead.truths)

-- the partner of this line, if any, is not done with
abbrev pub IsAheadOf : List Stay → ℕ → ℕ → Type 0
IsAheadOf stays at done = (old : ℕ) (same : Bool) → partner_by stays at ≡ Some (old, same) → done ≤ old
