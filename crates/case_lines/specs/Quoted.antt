-- Texts as a line writes them.
use Rattle.std.specs.Prelude.{ℕ, ◌==◌, if◌then◌else◌, Bool, true, false, List, [], ◌∷◌, Option, Some, None, option_map, option_and_then}

-- what a byte after a backslash stands for: the end of a line, a tab, a space or a backslash
abbrev pub meant_by : ℕ → Option ℕ
meant_by mark =
    if mark == 110 then Some 10 else (if mark == 116 then Some 9 else (if mark == 115 then Some 32 else (if mark == 92 then Some 92 else None)))

-- what the bytes stand for, where the flag says whether a backslash stands before them
abbrev pub unquoted_after : Bool → List ℕ → Option (List ℕ)
unquoted_after true [] = None
unquoted_after false [] = Some []
unquoted_after true (b ∷ bytes) = option_and_then (λ c. option_map (λ text. c ∷ text) (unquoted_after false bytes)) (meant_by b)
unquoted_after false (b ∷ bytes) =
    if b == 92 then unquoted_after true bytes else option_map (λ text. b ∷ text) (unquoted_after false bytes)

-- THE TEXT that is written
abbrev pub unquoted : List ℕ → Option (List ℕ)
unquoted written = unquoted_after false written
