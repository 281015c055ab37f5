-- The matches of some characters in a text.
use Rattle.std.specs.Prelude.{ℕ, zero, suc, ◌+◌, ◌-◌, nat_eq, Bool, if◌then◌else◌, List, [], ◌∷◌, length, map}
use Rattle.std.specs.List.{starts_with}
use Rattle.std.specs.Char.{to_ascii_lowercase}
use Rattle.plain_text.specs.declared.run.Run.{Run}

-- a text as it is compared: where case does not count, each ASCII capital is its small letter
abbrev pub folded : Bool → List ℕ → List ℕ
folded fold text = if fold then map to_ascii_lowercase text else text

-- the matches from the left in what stands from a gap on, where the first `skip` characters belong to the match before
abbrev pub matches_from : List ℕ → ℕ → ℕ → List ℕ → List Run
matches_from chars gap skip [] = []
matches_from chars gap (suc skip) (c ∷ text) = matches_from chars (gap + 1) skip text
matches_from chars gap zero (c ∷ text) =
    if starts_with nat_eq (c ∷ text) chars
    then record { start = gap; end = gap + length chars } ∷ matches_from chars (gap + 1) (length chars - 1) text
    else matches_from chars (gap + 1) 0 text

-- THE MATCHES of some characters in a text, from the left, none of which overlaps the one before; no characters match nowhere
abbrev pub matches_of : List ℕ → List ℕ → Bool → List Run
matches_of text [] fold = []
matches_of text (c ∷ chars) fold = matches_from (folded fold (c ∷ chars)) 0 0 (folded fold text)
