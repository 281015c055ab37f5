-- The lines of an input.
use Rattle.std.specs.Prelude.{ℕ, if◌then◌else◌, ◌==◌, List, [], ◌∷◌, ◌++◌}

-- the lines that LF ends among the bytes, with their LF, where `begun` stands before the bytes
abbrev pub ended_lines : List ℕ → List ℕ → List (List ℕ)
ended_lines begun [] = []
ended_lines begun (b ∷ bytes) =
    if b == 10 then (begun ++ b ∷ []) ∷ ended_lines [] bytes else ended_lines (begun ++ b ∷ []) bytes

-- what stands after the last LF
abbrev pub unended : List ℕ → List ℕ → List ℕ
unended begun [] = begun
unended begun (b ∷ bytes) = if b == 10 then unended [] bytes else unended (begun ++ b ∷ []) bytes

-- a piece as a line, unless it is empty
abbrev pub last_line : List ℕ → List (List ℕ)
last_line [] = []
last_line (b ∷ piece) = (b ∷ piece) ∷ []

-- THE LINES of an input
abbrev pub lines_of : List ℕ → List (List ℕ)
lines_of bytes = ended_lines [] bytes ++ last_line (unended [] bytes)
