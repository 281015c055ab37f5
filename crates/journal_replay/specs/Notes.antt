-- WHAT A SHELF ANSWERS that answers by the notes of a journal.
use Rattle.std.specs.Prelude.{ℕ, Bool, false, if◌then◌else◌, List, [], ◌∷◌, Some}
use Rattle.std.specs.Str.{bytes_eq, encode_utf8_all}
use Rattle.xi_plain.specs.declared.command.Act.{Act}
use Rattle.xi_plain.specs.declared.command.Act.TheVariants.{NewView, Save}
use Rattle.xi_plain.specs.declared.entry.Entry.{Entry}
use Rattle.xi_plain.specs.declared.entry.ShelfNote.{ShelfNote}
use Rattle.xi_plain.specs.declared.entry.ShelfNote.TheVariants as note
use Rattle.xi_plain.specs.Journal.{is_no_call}
use Rattle.outside.specs.declared.shelf.Shelved.{Shelved}
use Rattle.outside.specs.declared.shelf.Shelved.TheVariants.{Absent, Failed, Held, NoMemory}
use Rattle.outside.specs.declared.shelf.Stored.{Stored}
use Rattle.outside.specs.declared.shelf.Stored.TheVariants as stored

-- what such a shelf is: the entries whose notes it has still to give, and how often it failed
pub record Noted : Type 0 where
  pub entries : List Entry
  pub faults : ℕ

-- the entries from the first on for which a shelf was asked
abbrev pub from_asked : List Entry → List Entry
from_asked [] = []
from_asked (entry ∷ entries) = if is_no_call entry.shelf then from_asked entries else entry ∷ entries

-- what a read comes to that has this note; a note of a saving is none of a read
abbrev pub read_by : ShelfNote → Shelved
read_by (note.Held bytes) = Held bytes
read_by note.Absent = Absent
read_by note.Failed = Failed
read_by note.Done = NoMemory
read_by note.NoCall = NoMemory

-- what a write comes to
abbrev pub write_by : ShelfNote → Stored
write_by note.Done = stored.Done
write_by note.Failed = stored.Failed
write_by (note.Held bytes) = stored.NoMemory
write_by note.Absent = stored.NoMemory
write_by note.NoCall = stored.NoMemory

-- the act opens a file at this path, or saves one there
abbrev pub opens_at : Act → List ℕ → Bool
opens_at (NewView (Some own)) path = bytes_eq (encode_utf8_all own) (encode_utf8_all path)
opens_at act path = false

abbrev pub saves_at : Act → List ℕ → Bool
saves_at (Save view own) path = bytes_eq (encode_utf8_all own) (encode_utf8_all path)
saves_at act path = false

-- WHAT A READ of a path IS ANSWERED, and a write, by the first of these entries: what its note says, where it asks for that path; any other
-- gets no answer, as for want of memory
abbrev pub read_in : List Entry → List ℕ → Shelved
read_in [] path = NoMemory
read_in (entry ∷ entries) path = if opens_at entry.command.act path then read_by entry.shelf else NoMemory

abbrev pub write_in : List Entry → List ℕ → Stored
write_in [] path = stored.NoMemory
write_in (entry ∷ entries) path = if saves_at entry.command.act path then write_by entry.shelf else stored.NoMemory

-- the entries that are left after a call: those behind the first for which a shelf was asked
abbrev pub behind_first : List Entry → List Entry
behind_first [] = []
behind_first (entry ∷ entries) = entries
