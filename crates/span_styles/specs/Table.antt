-- The table of styles: the list of them in the order in which they were defined, with ids from 2 on (0 is the selection, 1 a match of the search).
use Rattle.std.specs.Prelude.{◌≡◌, ℕ, ◌+◌, List, length, Some, slice_get}
use Rattle.plain_edits.specs.declared.style.Style.{Style}

-- the id that the next style gets
abbrev pub next_id : List Style → ℕ
next_id styles = length styles + 2

-- the style has this id
abbrev pub HasId : List Style → Style → ℕ → Type 0
HasId styles style id = (index : ℕ) × (id ≡ index + 2) × (slice_get styles index ≡ Some style)

-- the style is not there
abbrev pub IsAbsent : List Style → Style → Type 0
IsAbsent styles style = (id : ℕ) → HasId styles style id → ⊥
