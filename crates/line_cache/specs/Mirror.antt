-- What a front end has, as a list of truths, one for each line of its screen.
use Rattle.std.specs.Prelude.{Bool, true, false, List, [], Option, None, Some, map}
use Rattle.std.specs.Arc.{arc_value}
use Rattle.std.specs.declared.sync.Arc.{Arc}
use Rattle.plain_screen.specs.declared.screen.Line.{Line}
use Rattle.plain_screen.specs.Screen.{Screen}

-- the truths of runs that are shared; with none the screen has no lines
abbrev pub shared_truths : {Z : Type 0} → Option (Arc (List Bool) Z) → List Bool
shared_truths None = []
shared_truths (Some runs) = arc_value runs

-- whether a line of a screen is valid
abbrev pub is_valid : Option Line → Bool
is_valid None = false
is_valid (Some line) = true

-- which lines of a screen are valid
abbrev pub valid_lines : Screen → List Bool
valid_lines screen = map is_valid screen
