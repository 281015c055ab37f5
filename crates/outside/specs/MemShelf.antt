-- A shelf in memory, exactly.
use Rattle.std.specs.Prelude.{ℕ, List, if◌then◌else◌}
use Rattle.outside.specs.declared.shelf.Shelved.{Shelved}
use Rattle.outside.specs.declared.shelf.Shelved.TheVariants.{Failed}
use Rattle.outside.specs.Shelf.{bytes_of, found}
use Rattle.outside.specs.Schedule.{FaultSchedule, is_due}

-- the files, and the schedule of the calls, reads and writes counted together
pub record Shelves : Type 0 where
  pub files : List (List ℕ × List ℕ)
  pub schedule : FaultSchedule

-- what the next call answers to a read of a path, where memory is left
abbrev pub read_answer : Shelves → List ℕ → Shelved
read_answer shelves path = if is_due shelves.schedule then Failed else found (bytes_of shelves.files path)
