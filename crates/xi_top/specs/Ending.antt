-- How a run ends, and the status that says so.
use Rattle.std.specs.Prelude.{ℕ, ◌^◌, Bool, if◌then◌else◌, Result, Ok, Err}
use Rattle.xi_top.specs.declared.ending.Ending.{Ending}
use Rattle.xi_top.specs.declared.ending.Ending.TheVariants.{NoMemory, SourceFault, SinkFault, TooMany, TooLong}

-- the most lines that a run takes, and the bytes without LF at which a line is too long
abbrev pub most_lines : ℕ
most_lines = 2 ^ 40

abbrev pub too_long : ℕ
too_long = 2 ^ 24

-- how a run ended: with its input, or before
abbrev pub Outcome : Type 0
Outcome = Result (Unit {0}) Ending

-- THE STATUS of a run
abbrev pub status_of : Outcome → ℕ
status_of (Ok done) = 0
status_of (Err NoMemory) = 3
status_of (Err SourceFault) = 4
status_of (Err SinkFault) = 5
status_of (Err TooMany) = 6
status_of (Err TooLong) = 7

-- how a run ended that ended so, by whether every entry of its journal was sent: one that was not ends it for that, and not with its input
abbrev pub settled : Outcome → Bool → Outcome
settled (Ok done) sent = if sent then Ok done else Err SinkFault
settled (Err ending) sent = Err ending
