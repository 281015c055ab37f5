-- A source in memory, exactly.
use Rattle.std.specs.Prelude.{ℕ, ◌==◌, min, List, length, drop, if◌then◌else◌}
use Rattle.outside.specs.declared.source.Pulled.{Pulled}
use Rattle.outside.specs.declared.source.Pulled.TheVariants.{Got, End, Failed}
use Rattle.outside.specs.Schedule.{FaultSchedule, is_due, next}

-- the bytes left, the greatest piece that one call gives, and the schedule of the calls
pub record Stock : Type 0 where
  pub left : List ℕ
  pub greatest : ℕ
  pub schedule : FaultSchedule

-- how many bytes the next call gives: none where it fails, else the least of the room, the greatest piece and
-- what is left
abbrev pub given_len : Stock → ℕ → ℕ
given_len stock room =
    if is_due stock.schedule then 0 else min (min room stock.greatest) (length stock.left)

-- so many bytes, where none is the end
abbrev pub got : ℕ → Pulled
got n = if n == 0 then End else Got n

-- what the next call answers
abbrev pub answer : Stock → ℕ → Pulled
answer stock room = if is_due stock.schedule then Failed else got (given_len stock room)

-- the source after that call
abbrev pub stock_after : Stock → ℕ → Stock
stock_after stock room = record stock { left = drop (given_len stock room) stock.left; schedule = next stock.schedule }
