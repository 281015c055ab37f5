-- EACH LINE IS ENTERED BEFORE THE NEXT READ, in a run on threads: what waits before each read of its source.
use Rattle.std.specs.Prelude.{◌≡◌, ℕ, List, [], ◌∷◌, ◌++◌, length, map, ⊤}
use Rattle.std.specs.List.{AllByRecursion}
use Rattle.plain_text.specs.InputLines.{ended_lines}
use Rattle.front_wire.specs.Front.{command_of}
use Rattle.outside.specs.declared.source.Pulled.{Pulled}
use Rattle.outside.specs.declared.source.Pulled.TheVariants.{Got}
use Rattle.outside.specs.Source.{SourceState, Gives}
use Rattle.xi_plain.specs.declared.entry.Entry.{Entry}
use Rattle.xi_plain.specs.Journal.{commands, front_entries}
use Rattle.xi_top.specs.Step.{AsksOnce}
use Rattle.xi_top.specs.Written.{AreSent}

-- before a read: the bytes that were taken by then, and what the source tells
pub record Reading : Type 0 where
  pub taken : List ℕ
  pub source : SourceState

-- NOTHING THAT IS WHOLE WAITS before a read of a run with this journal: what was taken is what the source gave since the run began, and the lines
-- that LF ended in it are the front end's in the first entries, which were sent; and no read failed
pub record IsEntered (start : SourceState) (journal : List Entry) (reading : Reading) : Type 0 where
  pub entries : List Entry
  pub later : List Entry
  pub first : journal ≡ entries ++ later
  pub asked : commands (front_entries entries) ≡ map command_of (ended_lines [] reading.taken)
  pub sent : AreSent (front_entries entries)
  pub gives : Gives start.left reading.source.left reading.taken
  pub no_read_failed : reading.source.failures ≡ start.failures

-- one read lies between two of them
pub record IsNextReading (reading next : Reading) : Type 0 where
  pub given : List ℕ
  pub asked : AsksOnce reading.source next.source (Got (length given)) given
  pub taken : next.taken ≡ reading.taken ++ given

-- one before each read, the latest first: at the eldest nothing was taken or asked of the source
abbrev pub AreReadings : SourceState → List Reading → Type 0
AreReadings start [] = ⊤
AreReadings start (reading ∷ []) = (reading.taken ≡ []) × (reading.source ≡ start)
AreReadings start (reading ∷ before ∷ readings) = IsNextReading before reading × AreReadings start (before ∷ readings)

-- one read more, which ended the run
pub record IsLastRead (reading : Reading) (after : SourceState) : Type 0 where
  pub answer : Pulled
  pub given : List ℕ
  pub asked : AsksOnce reading.source after answer given

-- the latest is before the last read; there is none only where nothing was taken or entered
abbrev pub EndsAfter : List Reading → SourceState → SourceState → List Entry → Type 0
EndsAfter [] before after journal = (journal ≡ []) × (after ≡ before)
EndsAfter (reading ∷ readings) before after journal = IsLastRead reading after

-- THE RUN ENTERS IN TIME: before each of its reads nothing that is whole waits
pub record EntersInTime (before after : SourceState) (journal : List Entry) : Type 0 where
  pub readings : List Reading
  pub one_a_read : AreReadings before readings
  pub entered : AllByRecursion (IsEntered before journal) readings
  pub last : EndsAfter readings before after journal
