-- The first line at which two lists of lines differ.
use Rattle.std.specs.Prelude.{ℕ, ◌+◌, if◌then◌else◌, List, [], ◌∷◌, Option, Some, None, option_map}
use Rattle.std.specs.Str.{bytes_eq}
use Rattle.plain_text.specs.InputLines.{lines_of}
use Rattle.protocol_cases.specs.declared.verdict.Difference.{Difference}
use Rattle.protocol_cases.specs.declared.verdict.Fault.{Fault}
use Rattle.protocol_cases.specs.declared.verdict.Fault.TheVariants.{Differs}
use Rattle.protocol_cases.specs.declared.verdict.Place.{Place}

-- the first difference of two lists of lines, the first of which have this number; a line that is not there counts as empty
abbrev pub first_difference : ℕ → List (List ℕ) → List (List ℕ) → Option Difference
first_difference number [] [] = None
first_difference number (line ∷ lines) [] = Some (record { line = number; expected = line; got = [] })
first_difference number [] (other ∷ others) = Some (record { line = number; expected = []; got = other })
first_difference number (line ∷ lines) (other ∷ others) =
    if bytes_eq line other then first_difference (number + 1) lines others else Some (record { line = number; expected = line; got = other })

-- that of bytes that were to stand there
abbrev pub bytes_fault : Place → List ℕ → List ℕ → Option Fault
bytes_fault place expected got = option_map (Differs place) (first_difference 1 (lines_of expected) (lines_of got))

-- the first of two, where there is one
abbrev pub first_of : Option Fault → Option Fault → Option Fault
first_of (Some fault) other = Some fault
first_of None other = other
