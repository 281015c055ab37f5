-- THE FOLDER OF A RUN: its two files, what saving a run makes of them, and what playing them comes to.
use Rattle.std.specs.Prelude.{◌≡◌, ◌⊎◌, ℕ, ◌&&◌, nat_le, nat_lt, if◌then◌else◌, List, [], ◌∷◌, ◌++◌, map, codes, Option, Some, None, IfSome}
use Rattle.std.specs.Option.{option_map}
use Rattle.outside.specs.Shelf.{bytes_of, with_file}
use Rattle.outside.specs.Sink.{SinkState}
use Rattle.xi_plain.specs.declared.entry.Entry.{Entry}
use Rattle.journal_file.specs.Filed.{IsFirstBad, entries_in}
use Rattle.journal_replay.specs.declared.replaying.ReplayFault.{ReplayFault}
use Rattle.journal_replay.specs.declared.replaying.ReplayFault.TheVariants as fault
use Rattle.journal_replay.specs.Replay.{Replays}
use Rattle.run_folder.specs.declared.part.Part.{Part}
use Rattle.run_folder.specs.declared.part.Part.TheVariants.{Tape, Journal}
use Rattle.run_folder.specs.declared.saving.Saved.{Saved}
use Rattle.run_folder.specs.declared.saving.Saved.TheVariants as saved
use Rattle.run_folder.specs.declared.playing.Ending.{Ending}
use Rattle.run_folder.specs.declared.playing.Ending.TheVariants as ending

-- the files of a shelf, where it tells them: paths with their bytes
abbrev pub Files : Type 0
Files = Option (List (List ℕ × List ℕ))

-- the path of a file of a folder
abbrev pub part_name : Part → List ℕ
part_name Tape = codes "tape"
part_name Journal = codes "journal"

abbrev pub path_of : List ℕ → Part → List ℕ
path_of folder part = (folder ++ 47 ∷ []) ++ part_name part

-- ---- saving

-- the files with one of a folder's set to these bytes
abbrev pub with_part : List ℕ → Part → List ℕ → Files → Files
with_part folder part bytes = option_map (λ held. with_file held (path_of folder part) bytes)

-- these bytes are a file of the journal, and the folder's was set to them
abbrev pub IsWritten : List ℕ → List Entry → Files → Files → Type 0
IsWritten folder journal before after =
    (bytes : List ℕ) × (entries_in bytes ≡ map Some journal) × (after ≡ with_part folder Journal bytes before)

-- WHAT SAVING a journal COMES TO
abbrev pub IsKept : Saved → List ℕ → List Entry → Files → Files → Type 0
IsKept saved.Whole folder journal before after = IsWritten folder journal before after
IsKept (saved.Failed part) folder journal before after = (part ≡ Journal) × (after ≡ before)
IsKept (saved.Unwritten index) folder journal before after = after ≡ before
IsKept saved.NoMemory folder journal before after = after ≡ before

-- WHAT SAVING a run COMES TO: both files are set; or the tape alone is, since the journal could not be saved or has no file; or none is
abbrev pub IsSaved : Saved → List ℕ → List ℕ → List Entry → Files → Files → Type 0
IsSaved saved.Whole folder tape journal before after = IsWritten folder journal (with_part folder Tape tape before) after
IsSaved (saved.Failed Tape) folder tape journal before after = after ≡ before
IsSaved (saved.Failed Journal) folder tape journal before after = after ≡ with_part folder Tape tape before
IsSaved (saved.Unwritten index) folder tape journal before after = after ≡ with_part folder Tape tape before
IsSaved saved.NoMemory folder tape journal before after = (after ≡ before) ⊎ (after ≡ with_part folder Tape tape before)

-- ---- playing

-- how many plugins a journal is played with: as many as the greatest of its callers up to 64 says
abbrev pub with_caller : ℕ → ℕ → ℕ
with_caller count caller = if nat_lt count caller && nat_le caller 64 then caller else count

abbrev pub count_from : ℕ → List Entry → ℕ
count_from count [] = count
count_from count (entry ∷ entries) = count_from (with_caller count entry.caller) entries

unfoldable pub plugin_count : List Entry → ℕ
plugin_count journal = count_from 0 journal

-- a replay of the entries of a file comes to this answer
abbrev pub IsReplay : List ℕ → List ℕ → SinkState → SinkState → Option ReplayFault → Type 0
IsReplay tape bytes before after answer =
    (journal : List Entry) × (entries_in bytes ≡ map Some journal) × Replays (plugin_count journal) tape journal before after answer

-- WHAT PLAYING the bytes of both files COMES TO
abbrev pub IsPlayedTo : Ending → List ℕ → List ℕ → SinkState → SinkState → Type 0
IsPlayedTo ending.Whole tape bytes before after = IsReplay tape bytes before after None
IsPlayedTo (ending.Differs index) tape bytes before after = IsReplay tape bytes before after (Some (fault.Differs index))
IsPlayedTo ending.SinkFault tape bytes before after = IsReplay tape bytes before after (Some fault.SinkFault)
IsPlayedTo (ending.NoEntry index) tape bytes before after = IsFirstBad (entries_in bytes) index × (after ≡ before)
IsPlayedTo ending.NoMemory tape bytes before after = (after ≡ before) ⊎ IsReplay tape bytes before after (Some fault.NoMemory)
IsPlayedTo (ending.Missing part) tape bytes before after = ⊥
IsPlayedTo (ending.Unread part) tape bytes before after = ⊥

-- a file of a folder has these bytes, where the shelf tells its files
abbrev pub HasPart : Files → List ℕ → Part → List ℕ → Type 0
HasPart files folder part bytes = IfSome files (λ held. bytes_of held (path_of folder part) ≡ Some bytes)

-- a file of a folder is not there, where the shelf tells its files
abbrev pub HasNoPart : Files → List ℕ → Part → Type 0
HasNoPart files folder part = IfSome files (λ held. bytes_of held (path_of folder part) ≡ None)

-- what is played is a file's journal
abbrev pub IsPlayedFile : Ending → List ℕ → List ℕ → Files → SinkState → SinkState → Type 0
IsPlayedFile end folder tape files before after =
    (bytes : List ℕ) × HasPart files folder Journal bytes × IsPlayedTo end tape bytes before after

-- WHAT PLAYING a folder COMES TO with this tape at hand
abbrev pub IsPlayedOn : Ending → List ℕ → List ℕ → Files → SinkState → SinkState → Type 0
IsPlayedOn (ending.Missing part) folder tape files before after = (part ≡ Journal) × HasNoPart files folder Journal × (after ≡ before)
IsPlayedOn (ending.Unread part) folder tape files before after = (part ≡ Journal) × (after ≡ before)
IsPlayedOn ending.NoMemory folder tape files before after =
    (after ≡ before) ⊎ IsPlayedFile ending.NoMemory folder tape files before after
IsPlayedOn end folder tape files before after = IsPlayedFile end folder tape files before after

-- what is played is a file's tape
abbrev pub IsPlayedBoth : Ending → List ℕ → Files → SinkState → SinkState → Type 0
IsPlayedBoth end folder files before after = (tape : List ℕ) × HasPart files folder Tape tape × IsPlayedOn end folder tape files before after

-- WHAT PLAYING a folder COMES TO: a file that is not there, or can't be read, is named, the tape first; the first line of the journal that is no entry
-- is; else the entries of the journal are replayed on the tape
abbrev pub IsPlayedFrom : Ending → List ℕ → Files → SinkState → SinkState → Type 0
IsPlayedFrom (ending.Missing Tape) folder files before after = HasNoPart files folder Tape × (after ≡ before)
IsPlayedFrom (ending.Unread Tape) folder files before after = after ≡ before
IsPlayedFrom ending.NoMemory folder files before after = (after ≡ before) ⊎ IsPlayedBoth ending.NoMemory folder files before after
IsPlayedFrom end folder files before after = IsPlayedBoth end folder files before after
