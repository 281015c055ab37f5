-- Which lines of the input became entries.
use Rattle.std.specs.Prelude.{◌≡◌, ◌≢◌, ℕ, ◌<◌, ◌≤◌, List, [], ◌∷◌, ◌++◌, length, map, Ok, Err, ⊤, ◌⊎◌}
use Rattle.std.specs.List.{AllByRecursion, concat}
use Rattle.xi_plain.specs.declared.command.Command.{Command}
use Rattle.plain_text.specs.InputLines.{ended_lines, unended, lines_of}
use Rattle.front_wire.specs.Front.{command_of}
use Rattle.xi_top.specs.declared.ending.Ending.TheVariants.{NoMemory, SourceFault, TooMany, TooLong}
use Rattle.xi_top.specs.Ending.{Outcome, most_lines, too_long}

-- a line with its LF that is not too long
abbrev pub IsShort : List ℕ → Type 0
IsShort line = length line ≤ too_long

-- a line is a text of fewer bytes than no line may have, with an LF behind it or without one
abbrev pub IsWithinLimit : List ℕ → Type 0
IsWithinLimit line = (text : List ℕ) × (length text < too_long) × ((line ≡ text) ⊎ (line ≡ text ++ 10 ∷ []))

-- the next line after these is the first that is too long: among some first bytes of those that were taken LF ended these lines, none of
-- them too long, and after the last LF stand as many bytes as no line may have
pub record IsNextTooLong (taken : List ℕ) (lines : List (List ℕ)) : Type 0 where
  pub front : List ℕ
  pub more : List ℕ
  pub cut : taken ≡ front ++ more
  pub ended : lines ≡ ended_lines [] front
  pub short : AllByRecursion IsShort lines
  pub long : too_long ≤ length (unended [] front)

-- HOW MANY LINES, by how the run ended, where these bytes were taken and those are left, and the others are the later lines: all of
-- them, where it ended with its input; not all, where memory was wanting; where the source failed those that LF ended among the bytes taken;
-- as many as a run takes; those before the first that is too long; else some
abbrev pub AreSoMany : Outcome → List ℕ → List ℕ → List (List ℕ) → List (List ℕ) → Type 0
AreSoMany (Ok done) taken left lines later = (left ≡ []) × (later ≡ [])
AreSoMany (Err NoMemory) taken left lines later = later ≢ []
AreSoMany (Err SourceFault) taken left lines later = lines ≡ ended_lines [] taken
AreSoMany (Err TooMany) taken left lines later = length lines ≡ most_lines
AreSoMany (Err TooLong) taken left lines later = IsNextTooLong taken lines
AreSoMany outcome taken left lines later = ⊤

-- THE LINES: the commands are those of some first lines of the input, which is what was taken and what is left; all bytes of these lines
-- were taken, none of them is too long, and they are no more than a run takes
pub record HoldsLines (outcome : Outcome) (taken left : List ℕ) (commands : List Command) : Type 0 where
  pub lines : List (List ℕ)
  pub later : List (List ℕ)
  pub rest : List ℕ
  pub first : lines_of (taken ++ left) ≡ lines ++ later
  pub whole : taken ≡ concat lines ++ rest
  pub asked : commands ≡ map command_of lines
  pub so_many : AreSoMany outcome taken left lines later
  pub within : AllByRecursion IsWithinLimit lines
  pub few : length lines ≤ most_lines
