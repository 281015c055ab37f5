-- A screen, and what the operations of an update do to it.
use Rattle.std.specs.Prelude.{ℕ, ◌+◌, if◌then◌else◌, nat_le, List, [], ◌∷◌, ◌++◌, length, map, take, drop, replicate, Option, Some, None}
use Rattle.std.specs.Option.{option_map}
use Rattle.plain_screen.specs.declared.screen.Line.{Line}
use Rattle.plain_screen.specs.declared.screen.Restyle.{Restyle}
use Rattle.plain_screen.specs.declared.screen.Op.{Op}
use Rattle.plain_screen.specs.declared.screen.Op.TheVariants.{Copy, Skip, Invalidate, Ins, Update}

-- what a front end keeps: its lines from the top, where `None` is a line that is not valid
abbrev pub Screen : Type 0
Screen = List (Option Line)

-- the line with this number, where it has one
abbrev pub numbered : Option ℕ → ℕ → Line → Line
numbered None number line = line
numbered (Some old) number line = record line { ln = Some number }

-- the number of the next line
abbrev pub number_after : Option ℕ → ℕ → ℕ
number_after None number = number
number_after (Some old) number = number + 1

-- the lines of which those that have a number are numbered from this one on
abbrev pub numbered_from : ℕ → Screen → Screen
numbered_from number [] = []
numbered_from number (None ∷ lines) = None ∷ numbered_from number lines
numbered_from number (Some line ∷ lines) = Some (numbered line.ln number line) ∷ numbered_from (number_after line.ln number) lines

-- the lines as an operation with this number takes them over
abbrev pub copied : Option ℕ → Screen → Screen
copied None lines = lines
copied (Some number) lines = numbered_from number lines

-- the line with these carets and styles
abbrev pub restyled : Restyle → Line → Line
restyled restyle line = record line { cursor = restyle.cursor; styles = restyle.styles }

-- as many old lines as there are restyles, each with its own; a line that is not valid stays so
abbrev pub restyled_lines : List Restyle → Screen → Screen
restyled_lines [] lines = []
restyled_lines (restyle ∷ restyles) [] = []
restyled_lines (restyle ∷ restyles) (None ∷ lines) = None ∷ restyled_lines restyles lines
restyled_lines (restyle ∷ restyles) (Some line ∷ lines) = Some (restyled restyle line) ∷ restyled_lines restyles lines

-- THE SCREEN RULE: what the operations make of the old lines that are left; undefined where they would run past them
abbrev pub screen_after : Screen → List Op → Option Screen
screen_after old [] = Some []
screen_after old (Copy n ln ∷ ops) =
    if nat_le n (length old) then option_map (λ lines. copied ln (take n old) ++ lines) (screen_after (drop n old) ops) else None
screen_after old (Skip n ∷ ops) = if nat_le n (length old) then screen_after (drop n old) ops else None
screen_after old (Invalidate n ∷ ops) = option_map (λ lines. replicate n None ++ lines) (screen_after old ops)
screen_after old (Ins new ∷ ops) = option_map (λ lines. map Some new ++ lines) (screen_after old ops)
screen_after old (Update ln restyles ∷ ops) =
    if nat_le (length restyles) (length old)
    then option_map (λ lines. copied ln (restyled_lines restyles old) ++ lines) (screen_after (drop (length restyles) old) ops) else None

-- how many lines the operations make
abbrev pub line_count : List Op → ℕ
line_count [] = 0
line_count (Copy n ln ∷ ops) = n + line_count ops
line_count (Skip n ∷ ops) = line_count ops
line_count (Invalidate n ∷ ops) = n + line_count ops
line_count (Ins new ∷ ops) = length new + line_count ops
line_count (Update ln restyles ∷ ops) = length restyles + line_count ops
