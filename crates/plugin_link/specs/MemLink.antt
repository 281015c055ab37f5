-- A link in memory, exactly.
use Rattle.std.specs.Prelude.{ℕ, min, List, length, drop, if◌then◌else◌}
use Rattle.outside.specs.Schedule.{FaultSchedule, is_due, next}
use Rattle.outside.specs.CalmSink.{Kept}
use Rattle.outside.specs.MemSource.{got}
use Rattle.outside.specs.declared.source.Pulled.{Pulled}
use Rattle.outside.specs.declared.source.Pulled.TheVariants as pulled
use Rattle.outside.specs.declared.sink.Pushed.{Pushed}
use Rattle.outside.specs.declared.sink.Pushed.TheVariants as pushed

-- the bytes left and those kept, the greatest piece that one pull gives and one push takes, and the schedule of the calls,
-- pulls and pushes counted together from 1
pub record Pipe : Type 0 where
  pub left : List ℕ
  pub kept : Kept
  pub most_pulled : ℕ
  pub most_pushed : ℕ
  pub calls : FaultSchedule

-- how many bytes the next pull gives: none where it fails, else the least of the room, the greatest piece and what is left
abbrev pub given_len : Pipe → ℕ → ℕ
given_len pipe room = if is_due pipe.calls then 0 else min (min room pipe.most_pulled) (length pipe.left)

-- what the next pull answers
abbrev pub pull_answer : Pipe → ℕ → Pulled
pull_answer pipe room = if is_due pipe.calls then pulled.Failed else got (given_len pipe room)

-- the link after that pull
abbrev pub pulled_from : Pipe → ℕ → Pipe
pulled_from pipe room = record pipe { left = drop (given_len pipe room) pipe.left; calls = next pipe.calls }

-- what the next push answers at a piece of this length
abbrev pub push_answer : Pipe → ℕ → Pushed
push_answer pipe len = if is_due pipe.calls then pushed.Failed else pushed.Took (min len pipe.most_pushed)
