-- Spots: runs of characters that stand apart in a text.
use Rattle.std.specs.Prelude.{ℕ, ◌<◌, ◌≤◌, nat_lt, if◌then◌else◌, List, [], ◌∷◌, length}
use Rattle.plain_text.specs.declared.run.Run.{Run}

-- the runs start at `from` or later, rise without an overlap, are not empty, and end by `len`
abbrev pub AreSpots : ℕ → ℕ → List Run → Type 0
AreSpots len from [] = from ≤ len
AreSpots len from (run ∷ runs) = (from ≤ run.start) × (run.start < run.end) × AreSpots len run.end runs

-- THE LAW of what looks for spots: whatever the text, they are spots of it
pub record AreSpotsOfTexts {S : Type 0} (found_in : S → List ℕ → List Run) : Type 0 where
  pub stand : (s : S) (text : List ℕ) → AreSpots (length text) 0 (found_in s text)

-- the run from one gap to another, if there is a character between them
abbrev pub run_between : ℕ → ℕ → List Run
run_between start end = if nat_lt start end then (record { start = start; end = end }) ∷ [] else []
