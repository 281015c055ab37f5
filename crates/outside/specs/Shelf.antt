-- What a call of a shelf does. A shelf's files are a list of paths, each with its bytes, which rises by the paths' bytes.
use Rattle.std.specs.Prelude.{◌≡◌, ℕ, List, Option, Some, None}
use Rattle.std.specs.Ordering.{nat_cmp}
use Rattle.std.specs.declared.cmp.Ordering.{Ordering}
use Rattle.std.specs.Cmp.Lexicographic.{slice_cmp}
use Rattle.std.specs.Str.{encode_utf8_all}
use Rattle.std.specs.List.Sorted.{IsStrictlySortedBy}
use Rattle.std.specs.Map.{lookup, keys_of}
use Rattle.std.specs.BTreeMap.{is_at, insert_entry}
use Rattle.outside.specs.Faults.{counted}
use Rattle.outside.specs.declared.shelf.Shelved.{Shelved}
use Rattle.outside.specs.declared.shelf.Shelved.TheVariants.{Held, Absent, Failed, NoMemory}
use Rattle.outside.specs.declared.shelf.Stored.{Stored}
use Rattle.outside.specs.declared.shelf.Stored.TheVariants as stored

-- how the bytes of two paths compare
abbrev pub path_cmp : List ℕ → List ℕ → Ordering
path_cmp path other = slice_cmp nat_cmp (encode_utf8_all path) (encode_utf8_all other)

-- each path's bytes stand below those of all paths after it
abbrev pub IsRisingByPath : List (List ℕ × List ℕ) → Type 0
IsRisingByPath files = IsStrictlySortedBy path_cmp (keys_of files)

-- the bytes of a path, if it has some
abbrev pub bytes_of : List (List ℕ × List ℕ) → List ℕ → Option (List ℕ)
bytes_of files path = lookup (is_at (path_cmp path)) files

-- the files with a path set to these bytes
abbrev pub with_file : List (List ℕ × List ℕ) → List ℕ → List ℕ → List (List ℕ × List ℕ)
with_file files path bytes = insert_entry path_cmp files path bytes

-- what is answered where a path has these bytes, or none
abbrev pub found : Option (List ℕ) → Shelved
found None = Absent
found (Some bytes) = Held bytes

-- an answer that tells what a path has tells it right; that a read failed, or lacked memory, tells nothing
abbrev pub TellsOf : Shelved → Option (List ℕ) → Type 0
TellsOf (Held bytes) had = had ≡ Some bytes
TellsOf Absent had = had ≡ None
TellsOf Failed had = Unit {0}
TellsOf NoMemory had = Unit {0}

-- the files after a write that gave this answer: only what is done changes them
abbrev pub files_after : Stored → List (List ℕ × List ℕ) → List ℕ → List ℕ → List (List ℕ × List ℕ)
files_after stored.Done files path bytes = with_file files path bytes
files_after stored.Failed files path bytes = files
files_after stored.NoMemory files path bytes = files

-- the count of faults after a read: one more where it failed
abbrev pub faults_after_read : Shelved → ℕ → ℕ
faults_after_read (Held bytes) faults = faults
faults_after_read Absent faults = faults
faults_after_read Failed faults = counted faults
faults_after_read NoMemory faults = faults

-- the count of faults after a write: one more where it failed
abbrev pub faults_after_write : Stored → ℕ → ℕ
faults_after_write stored.Done faults = faults
faults_after_write stored.Failed faults = counted faults
faults_after_write stored.NoMemory faults = faults
