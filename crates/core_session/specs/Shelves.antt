-- THE SHELF HOLDS THE SAVES: what the entries of a journal ask of a shelf, what they leave in it, and what their notes tell of it.
use Rattle.session_step.specs.declared.terms.Terms.{Terms}
use Rattle.std.specs.Prelude.{◌≡◌, ℕ, ◌+◌, ◌-◌, ◌^◌, ◌<◌, ◌≤◌, ◌||◌, Bool, true, false, not, List, [], ◌∷◌, Option, Some, None, option_map, IfSome, ⊤}
use Rattle.std.specs.Option.{is_some}
use Rattle.std.specs.Str.{encode_utf8_all}
use Rattle.xi_plain.specs.declared.command.Act.{Act}
use Rattle.xi_plain.specs.declared.command.Act.TheVariants.{NewView, Save}
use Rattle.xi_plain.specs.declared.entry.Entry.{Entry}
use Rattle.xi_plain.specs.declared.entry.ShelfNote.{ShelfNote}
use Rattle.xi_plain.specs.declared.entry.ShelfNote.TheVariants.{Absent, Done, Failed, Held}
use Rattle.xi_plain.specs.Journal.{is_no_call, may_have_note}
use Rattle.outside.specs.Faults.{Rose}
use Rattle.outside.specs.Shelf.{bytes_of, with_file}
use Rattle.doc_text.specs.Writing.{head_text}
use Rattle.session_step.specs.Session.{OpenView, Session, first_session, named_view, step}

-- files: paths with their bytes
abbrev pub Files : Type 0
Files = List (List ℕ × List ℕ)

-- what a shelf tells of itself: its files, where it tells them, and its faults
pub record ShelfState : Type 0 where
  pub files : Option Files
  pub faults : ℕ

-- the same, put together from what each of them is for the shelf
abbrev pub shelf_state : {H : Type 0} → (H → Option Files) → (H → ℕ) → H → ShelfState
shelf_state files faults shelf = record { files = files shelf; faults = faults shelf }

-- ---- which entries ask it

-- a saving asks the shelf exactly where its view is open
abbrev pub is_saving_of : Option OpenView → ShelfNote → Bool
is_saving_of None note = is_no_call note
is_saving_of (Some view) note = not (is_no_call note)

-- whether an act has such a note, where these views are open
abbrev pub asks_as : List OpenView → Act → ShelfNote → Bool
asks_as views (Save name path) note = is_saving_of (named_view views name) note
asks_as views act note = true

-- whether an act opens a file, and the view that it saves, if it does
abbrev pub opens_file : Act → Bool
opens_file (NewView (Some path)) = true
opens_file act = false

abbrev pub saved_view : Act → Option (List ℕ)
saved_view (Save name path) = Some name
saved_view act = None

-- the view is open, where there is one
abbrev pub has_view : List OpenView → Option (List ℕ) → Bool
has_view views None = false
has_view views (Some name) = is_some (named_view views name)

-- WHETHER AN ACT ASKS THE SHELF, where these views are open: it opens a file, or saves one of them
abbrev pub asks_shelf : List OpenView → Act → Bool
asks_shelf views act = opens_file act || has_view views (saved_view act)

-- EACH SAVING ASKS THE SHELF exactly where its view is open
abbrev pub AreSavesAskedFrom : Session → List Entry → Type 0
AreSavesAskedFrom session [] = ⊤
AreSavesAskedFrom session (entry ∷ entries) =
    (asks_as session.views entry.command.act entry.shelf ≡ true) × AreSavesAskedFrom (step session entry) entries

-- the same from the start of a session
abbrev pub AreSavesAsked : Terms → List Entry → Type 0
AreSavesAsked terms journal = AreSavesAskedFrom (first_session terms) journal

-- ---- what they leave in it

-- the files once a view was saved under a path: the path has its head text in UTF-8, and all other paths what they had
abbrev pub with_saved : Files → List ℕ → Option OpenView → Files
with_saved files path None = files
with_saved files path (Some view) = with_file files path (encode_utf8_all (head_text view.document.text))

-- the files after an act, where these views are open: a saving that was done sets its path, and nothing else changes them
abbrev pub files_with : Files → List OpenView → Act → ShelfNote → Files
files_with files views (Save name path) Done = with_saved files path (named_view views name)
files_with files views act note = files

-- THE FILES AFTER ENTRIES: those before them, with each view that was saved as it was at its entry
abbrev pub files_after_all : Session → Files → List Entry → Files
files_after_all session files [] = files
files_after_all session files (entry ∷ entries) =
    files_after_all (step session entry) (files_with files session.views entry.command.act entry.shelf) entries

-- those of a journal
abbrev pub shelved : Terms → Files → List Entry → Files
shelved terms files journal = files_after_all (first_session terms) files journal

-- ---- what their notes tell of it

-- the note of an opening tells what the path had
abbrev pub NoteTells : Files → Act → ShelfNote → Type 0
NoteTells files (NewView (Some path)) (Held bytes) = bytes_of files path ≡ Some bytes
NoteTells files (NewView (Some path)) Absent = bytes_of files path ≡ None
NoteTells files act note = ⊤

-- each note tells what the files were at its entry
abbrev pub NotesTellFrom : Session → Files → List Entry → Type 0
NotesTellFrom session files [] = ⊤
NotesTellFrom session files (entry ∷ entries) =
    NoteTells files entry.command.act entry.shelf ×
    NotesTellFrom (step session entry) (files_with files session.views entry.command.act entry.shelf) entries

-- the same from the start of a session
abbrev pub NotesTell : Terms → Files → List Entry → Type 0
NotesTell terms files journal = NotesTellFrom (first_session terms) files journal

-- how many of the notes say that the shelf failed
abbrev pub failed_count : ShelfNote → ℕ
failed_count Failed = 1
failed_count note = 0

abbrev pub failed_notes : List Entry → ℕ
failed_notes [] = 0
failed_notes (entry ∷ entries) = failed_count entry.shelf + failed_notes entries

-- THE SHELF HOLDS THE SAVES: where it tells its files, they are those that it had before with each save of the journal, and each note tells
-- what they were at its entry. As many notes at most say that it failed as its count of faults rose, where that ends below its last value
pub record HoldsSaves (terms : Terms) (before after : ShelfState) (journal : List Entry) : Type 0 where
  pub files : after.files ≡ option_map (λ files. shelved terms files journal) before.files
  pub tells : IfSome before.files (λ files. NotesTell terms files journal)
  pub stays : before.faults ≤ after.faults
  pub failed : after.faults < 2 ^ 64 - 1 → before.faults + failed_notes journal ≤ after.faults

-- ONE ENTRY at a shelf, where these views are open: its note is of a kind that its act can have, and the shelf was asked where it has to be;
-- the shelf has the files that the act leaves, and the note tells what they were; and one that says that it failed is there only where its
-- count of faults rose
pub record IsNoted (before after : ShelfState) (views : List OpenView) (act : Act) (note : ShelfNote) : Type 0 where
  pub kind : may_have_note act note ≡ true
  pub asked : asks_as views act note ≡ true
  pub files : after.files ≡ option_map (λ files. files_with files views act note) before.files
  pub tells : IfSome before.files (λ files. NoteTells files act note)
  pub stays : before.faults ≤ after.faults
  pub failed : note ≡ Failed → Rose before.faults after.faults

-- the shelf has the files that it had
pub record KeepsFiles (before after : ShelfState) : Type 0 where
  pub files : after.files ≡ before.files
  pub stays : before.faults ≤ after.faults
