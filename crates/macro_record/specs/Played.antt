-- What is played of a tape.
use Rattle.std.specs.Prelude.{ℕ, List, [], ◌∷◌, ◌++◌, replicate, slice_range}
use Rattle.std.specs.List.{concat, flat_map}
use Rattle.plain_text.specs.InputLines.{unended, lines_of}

-- the LF that some bytes lack, where something stands after their last one
abbrev pub lacking_lf : List ℕ → List ℕ
lacking_lf [] = []
lacking_lf (b ∷ rest) = 10 ∷ []

-- the bytes, ended by LF
abbrev pub with_lf : List ℕ → List ℕ
with_lf bytes = bytes ++ lacking_lf (unended [] bytes)

-- WHAT IS PLAYED: the lines of the tape from one index up to another, each ended by LF, so many times over
abbrev pub played_of : List ℕ → ℕ → ℕ → ℕ → List ℕ
played_of tape from to times = concat (replicate times (flat_map with_lf (slice_range (lines_of tape) from to)))
