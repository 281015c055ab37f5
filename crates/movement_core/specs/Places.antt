-- Boundaries of a text that a motion finds: the least or the greatest one that passes a test.
use Rattle.std.specs.Prelude.{◌≡◌, ℕ, ◌≤◌, Bool, true, nat_lt, nat_le, List, length, reverse, unwrap_or}
use Rattle.std.specs.List.{Contains, find}
use Rattle.cluster_core.specs.Boundaries.{text_boundaries}

-- the least boundary that passes, or the text's end where none does
abbrev pub least_place : (ℕ → Bool) → List ℕ → ℕ
least_place passes text = unwrap_or (find passes (text_boundaries text)) (length text)

-- the greatest boundary that passes, or the text's start where none does
abbrev pub greatest_place : (ℕ → Bool) → List ℕ → ℕ
greatest_place passes text = unwrap_or (find passes (reverse (text_boundaries text))) 0

-- the boundary before a gap, and the one after it
abbrev pub left_of : List ℕ → ℕ → ℕ
left_of text gap = greatest_place (λ place. nat_lt place gap) text

abbrev pub right_of : List ℕ → ℕ → ℕ
right_of text gap = least_place (λ place. nat_lt gap place) text

-- OUTWARD: a gap itself where it is a boundary, else the boundary on that side of it
abbrev pub outward_left : List ℕ → ℕ → ℕ
outward_left text gap = greatest_place (λ place. nat_le place gap) text

abbrev pub outward_right : List ℕ → ℕ → ℕ
outward_right text gap = least_place (λ place. nat_le gap place) text

-- a gap is a boundary of the text
abbrev pub IsPlace : List ℕ → ℕ → Type 0
IsPlace text gap = Contains (text_boundaries text) gap

-- the same said of a gap: it is a boundary that passes, and there is none that is less
pub record IsLeastPlace (passes : ℕ → Bool) (text : List ℕ) (gap : ℕ) : Type 0 where
  pub place : IsPlace text gap
  pub passed : passes gap ≡ true
  pub least : (other : ℕ) → IsPlace text other → passes other ≡ true → gap ≤ other

-- and of the greatest: there is none that is greater
pub record IsGreatestPlace (passes : ℕ → Bool) (text : List ℕ) (gap : ℕ) : Type 0 where
  pub place : IsPlace text gap
  pub passed : passes gap ≡ true
  pub greatest : (other : ℕ) → IsPlace text other → passes other ≡ true → other ≤ gap
