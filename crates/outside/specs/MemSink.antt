-- A sink in memory, exactly.
use Rattle.std.specs.Prelude.{ℕ, min, List, Option, if◌then◌else◌}
use Rattle.outside.specs.declared.sink.Pushed.{Pushed}
use Rattle.outside.specs.declared.sink.Pushed.TheVariants.{Took, Failed}
use Rattle.outside.specs.CalmSink.{Kept}
use Rattle.outside.specs.Schedule.{FaultSchedule, is_due}

-- the bytes held, where the sink still tells them, how often it was refused memory to keep a piece, the greatest piece that one call
-- takes, and the schedule of the calls
pub record Store : Type 0 where
  pub held : Option (List ℕ)
  pub refused : ℕ
  pub greatest : ℕ
  pub schedule : FaultSchedule

-- what the sink keeps
abbrev pub kept_by : Store → Kept
kept_by store = record { held = store.held; refused = store.refused }

-- what the next call answers at a piece of this length
abbrev pub answer : Store → ℕ → Pushed
answer store len = if is_due store.schedule then Failed else Took (min len store.greatest)
