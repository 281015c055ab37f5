-- The logical lines of a text.
use Rattle.std.specs.Prelude.{ℕ, if◌then◌else◌, ◌==◌, List, [], ◌∷◌}
use Rattle.std.specs.List.{onto_first}

-- the logical lines: each ends after its LF, and the last one has none
abbrev pub logical_lines : List ℕ → List (List ℕ)
logical_lines [] = [] ∷ []
logical_lines (c ∷ text) = if c == 10 then (c ∷ []) ∷ logical_lines text else onto_first c (logical_lines text)
