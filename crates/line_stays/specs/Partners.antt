-- The partner of a line, by the logical line that it is of.
use Rattle.std.specs.Prelude.{ℕ, ◌+◌, Bool, List, Option, None, Some, slice_get}
use Rattle.plain_screen.specs.declared.screen.Line.{Line}
use Rattle.plain_screen.specs.Touched.{are_alike, first_of, is_same_but_number}

-- THE PARTNER of the line at this place among those of a logical line, whose counterpart among the logical lines before has this index, if it has one: the line
-- at the same place there, and whether the logical line is not touched
abbrev pub partner_in : List (List Line) → Option ℕ → List Line → ℕ → Option (ℕ × Bool)
partner_in before None lines place = None
partner_in before (Some index) lines place = Some (first_of before index + place, are_alike is_same_but_number (slice_get before index) lines)
