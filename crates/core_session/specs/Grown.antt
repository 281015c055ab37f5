-- HOW A SESSION GROWS: what it tells of itself, and what lies between two moments of it.
use Rattle.std.specs.Prelude.{◌≡◌, ℕ, ◌+◌, ◌-◌, ◌^◌, ◌<◌, ◌≤◌, Bool, true, false, if◌then◌else◌, List, [], ◌∷◌, ◌++◌, length, take, Option, option_map, IfSome}
use Rattle.std.specs.List.{list_all}
use Rattle.xi_plain.specs.declared.entry.Entry.{Entry}
use Rattle.outside.specs.Faults.{Rose, counted}
use Rattle.outside.specs.Sink.{SinkState, Gains}
use Rattle.session_step.specs.declared.terms.Terms.{Terms}
use Rattle.session_step.specs.Session.{Session, piece_of, session_of, step}
use Rattle.core_session.specs.Shelves.{Files, NotesTellFrom, ShelfState, failed_notes, files_after_all}

-- WHAT A SESSION TELLS of itself: what it was made with, its journal, its sink and its shelf
pub record SessionState : Type 0 where
  pub terms : Terms
  pub journal : List Entry
  pub sink : SinkState
  pub shelf : ShelfState

-- the session that its journal defines
abbrev pub session_in : SessionState → Session
session_in told = session_of told.terms told.journal

-- ---- what new entries write

-- these bytes are the first ones of those, and not all
abbrev pub IsProperPart : List ℕ → List ℕ → Type 0
IsProperPart part bytes = (n : ℕ) × (n < length bytes) × (part ≡ take n bytes)

-- what is written of the piece of an entry that was sent, or was not: the whole, or a part that is not the whole
abbrev pub IsWrittenOf : Bool → List ℕ → List ℕ → Type 0
IsWrittenOf true piece part = part ≡ piece
IsWrittenOf false piece part = IsProperPart part piece

-- THESE BYTES WERE WRITTEN of the entries that come after this session, of one after the other
abbrev pub AreWritten : Session → List Entry → List ℕ → Type 0
AreWritten session [] bytes = bytes ≡ []
AreWritten session (entry ∷ entries) bytes =
    (part : List ℕ) × (rest : List ℕ) × (bytes ≡ part ++ rest) × IsWrittenOf entry.sent (piece_of session entry) part ×
    AreWritten (step session entry) entries rest

-- whether each of these entries was sent
abbrev pub are_sent : List Entry → Bool
are_sent entries = list_all (λ entry. entry.sent) entries

-- how often a sink failed after an entry that was sent, or was not, and after some of them: one call more for each that was not
abbrev pub failures_if : Bool → ℕ → ℕ
failures_if sent failures = if sent then failures else counted failures

abbrev pub failures_with : List Entry → ℕ → ℕ
failures_with [] failures = failures
failures_with (entry ∷ entries) failures = failures_with entries (failures_if entry.sent failures)

-- ---- what they leave in a shelf

-- the files that entries leave after this session, where a shelf tells them
abbrev pub files_left : Session → List Entry → Option Files → Option Files
files_left session entries told = option_map (λ files. files_after_all session files entries) told

-- THE SECOND IS THE FIRST AFTER SOME CALLS
pub record IsGrown (old new : SessionState) : Type 0 where
  -- there are as many plugins, and the limit is the same
  pub terms : new.terms ≡ old.terms
  -- the journal is longer by new entries, or the same
  pub more : List Entry
  pub journal : new.journal ≡ old.journal ++ more
  -- where the sink tells its bytes it told them before, and it gained what was written of the new entries
  pub bytes : List ℕ
  pub gains : Gains old.sink.held new.sink.held bytes
  pub written : AreWritten (session_in old) more bytes
  -- one of its calls failed for each of them that was not sent
  pub failures : new.sink.failures ≡ failures_with more old.sink.failures
  -- the shelf tells its files exactly where it told them before, and they changed by the new entries in their order
  pub files : new.shelf.files ≡ files_left (session_in old) more old.shelf.files
  -- each note tells what the files were at its entry
  pub noted : IfSome old.shelf.files (λ files. NotesTellFrom (session_in old) files more)
  -- no count of faults fell
  pub sink_stays : old.sink.faults ≤ new.sink.faults
  pub shelf_stays : old.shelf.faults ≤ new.shelf.faults
  -- one of the new entries was not sent only where the sink's count rose
  pub unsent : are_sent more ≡ false → Rose old.sink.faults new.sink.faults
  -- at most as many of their notes say that the shelf failed as its count rose, where that ends below its last value
  pub failed : new.shelf.faults < 2 ^ 64 - 1 → old.shelf.faults + failed_notes more ≤ new.shelf.faults
