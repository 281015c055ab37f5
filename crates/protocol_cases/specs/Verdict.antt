-- What becomes of a case.
use Rattle.std.specs.Prelude.{◌≡◌, ℕ, ◌==◌, if◌then◌else◌, List, [], ◌∷◌, length, Option, Some, None}
use Rattle.outside.specs.Shelf.{bytes_of}
pub use Rattle.protocol_cases.specs.Difference.{bytes_fault, first_difference, first_of}
use Rattle.protocol_cases.specs.TurnFault.{plugins_fault}
use Rattle.protocol_cases.specs.Turns.{HadAll}
use Rattle.case_scripts.specs.declared.shelf.FileSaid.{FileSaid}
use Rattle.protocol_cases.specs.declared.verdict.Expected.{Expected}
use Rattle.protocol_cases.specs.declared.verdict.Place.TheVariants.{Output, File}
use Rattle.protocol_cases.specs.declared.verdict.Verdict.{Verdict}
use Rattle.protocol_cases.specs.declared.verdict.Verdict.TheVariants.{Passes, Fails}
use Rattle.protocol_cases.specs.declared.verdict.Fault.{Fault}
use Rattle.protocol_cases.specs.declared.verdict.Fault.TheVariants.{Absent, Present, FileCount, Status}
use Rattle.protocol_cases.specs.Played.{Played}
use Rattle.case_scripts.specs.Shelf.{Files, may_hold}
use Rattle.protocol_cases.specs.Shelf.{AreAsSaid, count_after, counts}

-- a file, by what the shelf has of it
abbrev pub found_fault : FileSaid → Option (List ℕ) → Option Fault
found_fault file None = if may_hold file.when then Some (Absent file.path) else None
found_fault file (Some got) = if may_hold file.when then bytes_fault (File file.path) file.bytes got else Some (Present file.path)

-- the same, where it counts
abbrev pub file_fault : List FileSaid → Files → FileSaid → Option Fault
file_fault said shelf file = if counts said file then found_fault file (bytes_of shelf file.path) else None

-- files, one after the other
abbrev pub files_fault : List FileSaid → Files → List FileSaid → Option Fault
files_fault said shelf [] = None
files_fault said shelf (file ∷ files) = first_of (file_fault said shelf file) (files_fault said shelf files)

-- how many they are
abbrev pub count_fault : ℕ → ℕ → Option Fault
count_fault expected got = if expected == got then None else Some (FileCount expected got)

-- the shelf
abbrev pub shelf_fault : List FileSaid → Files → Option Fault
shelf_fault said shelf = first_of (files_fault said shelf said) (count_fault (count_after said said) (length shelf))

-- the status
abbrev pub status_fault : ℕ → ℕ → Option Fault
status_fault expected got = if expected == got then None else Some (Status expected got)

-- what is wrong first with a run that wrote these bytes, had these plugins, left these files, and ended with this status
abbrev pub fault_of : Expected → List ℕ → List Played → Files → ℕ → Option Fault
fault_of expected got players shelf status =
    first_of (bytes_fault Output expected.output got) (first_of (plugins_fault expected.turns 1 players) (first_of (shelf_fault expected.files shelf) (status_fault expected.status status)))

abbrev pub verdict_from : Option Fault → Verdict
verdict_from None = Passes
verdict_from (Some fault) = Fails fault

-- THE VERDICT on such a run
abbrev pub verdict_of : Expected → List ℕ → List Played → Files → ℕ → Verdict
verdict_of expected got players shelf status = verdict_from (fault_of expected got players shelf status)

-- a run came to what was expected of it
pub record IsExpected (expected : Expected) (got : List ℕ) (players : List Played) (shelf : Files) (status : ℕ) : Type 0 where
  pub output : got ≡ expected.output
  pub plugins : HadAll expected.turns 1 players
  pub files : AreAsSaid expected.files shelf
  pub ends : status ≡ expected.status
