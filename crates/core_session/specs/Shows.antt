-- THE WRITTEN BYTES SHOW THE JOURNAL: what a front end makes of the bytes that the core wrote, by the updates in them alone.
use Rattle.session_step.specs.declared.terms.Terms.{Terms}
use Rattle.std.specs.Prelude.{◌≡◌, ℕ, ◌+◌, ◌<◌, ◌≤◌, ◌||◌, true, if◌then◌else◌, List, [], ◌∷◌, ◌++◌, length, Option, Some, None, ⊤}
use Rattle.std.specs.List.{filter_map, AllByRecursion}
use Rattle.std.specs.Str.{bytes_eq, encode_utf8_all}
use Rattle.plain_text.specs.declared.run.Run.{Run}
use Rattle.xi_plain.specs.declared.command.Act.{Act}
use Rattle.xi_plain.specs.declared.command.Act.TheVariants.{Edit}
use Rattle.xi_plain.specs.declared.entry.Entry.{Entry}
use Rattle.plain_screen.specs.declared.screen.Op.{Op}
use Rattle.plain_screen.specs.declared.screen.Op.TheVariants.{Copy, Skip, Invalidate, Ins, Update}
use Rattle.plain_screen.specs.Screen.{Screen, screen_after}
use Rattle.plain_screen.specs.Plan.{is_within}
use Rattle.plain_text.specs.InputLines.{lines_of}
use Rattle.view_update.specs.declared.note.ViewUpdate.{ViewUpdate}
use Rattle.view_update.specs.Reading.{line_update}
use Rattle.doc_session.specs.Document.{Document, layout_of, no_request}
use Rattle.doc_session.specs.ScreenOf.{IsScreenOf}
use Rattle.doc_session.specs.Step.{request_of}
use Rattle.session_step.specs.Session.{OpenView, first_session, session_of, view_of, views_of, piece_of, written}

-- the notes `update` in the lines of these bytes: each is an update of a view, or `None` where it can't be read
abbrev pub updates_in : List ℕ → List (Option ViewUpdate)
updates_in bytes = filter_map line_update (lines_of bytes)

-- the screen of the view with this id after a note, where a note of another view leaves it as it is. It is not defined where the note
-- can't be read; and one that is not defined stays so
abbrev pub screen_with : List ℕ → Option Screen → Option ViewUpdate → Option Screen
screen_with id None update = None
screen_with id (Some screen) None = None
screen_with id (Some screen) (Some note) = if bytes_eq note.view id then screen_after screen note.update.ops else Some screen

-- its screen after notes
abbrev pub rebuilt_from : List ℕ → Option Screen → List (Option ViewUpdate) → Option Screen
rebuilt_from id screen [] = screen
rebuilt_from id screen (note ∷ notes) = rebuilt_from id (screen_with id screen note) notes

-- THE SCREEN of the view with this id that is rebuilt from bytes alone, where that is defined
abbrev pub rebuilt : List ℕ → List ℕ → Option Screen
rebuilt id bytes = rebuilt_from id (Some []) (updates_in bytes)

-- THE REQUEST of an act: the lines of the view with this id that it requests
abbrev pub requested : Act → List ℕ → Run
requested (Edit name act) id = if bytes_eq (encode_utf8_all name) id then request_of act else no_request
requested act id = no_request

-- that of the last of these entries
abbrev pub last_requested : List Entry → List ℕ → Run
last_requested [] id = no_request
last_requested (entry ∷ []) id = requested entry.command.act id
last_requested (entry ∷ next ∷ entries) id = last_requested (next ∷ entries) id

-- the rebuilt screen is defined, and is that of the document: it has the layout's length, each valid line of it is the layout's, and
-- each line in the window or the request is valid
abbrev pub IsShown : Run → Document → Option Screen → Type 0
IsShown request document None = ⊥
IsShown request document (Some screen) = IsScreenOf screen document.view.window request (layout_of document)

-- THE VIEWS ARE SHOWN: of each view that is open, the screen that is rebuilt from the bytes is that of its document, with the lines that
-- were requested of it
abbrev pub AreShown : (List ℕ → Run) → List OpenView → List ℕ → Type 0
AreShown requests views bytes = AllByRecursion (λ view. IsShown (requests view.id) view.document (rebuilt view.id bytes)) views

-- each line that the operations send or restyle is in the window or requested; the first of them makes the line with this index
abbrev pub SendsWithin : Run → Run → ℕ → List Op → Type 0
SendsWithin window request index [] = ⊤
SendsWithin window request index (Copy n ln ∷ ops) = SendsWithin window request (index + n) ops
SendsWithin window request index (Skip n ∷ ops) = SendsWithin window request index ops
SendsWithin window request index (Invalidate n ∷ ops) = SendsWithin window request (index + n) ops
SendsWithin window request index (Ins lines ∷ ops) =
    ((at : ℕ) → index ≤ at → at < index + length lines → (is_within window at || is_within request at) ≡ true) ×
    SendsWithin window request (index + length lines) ops
SendsWithin window request index (Update ln restyles ∷ ops) =
    ((at : ℕ) → index ≤ at → at < index + length restyles → (is_within window at || is_within request at) ≡ true) ×
    SendsWithin window request (index + length restyles) ops

-- the operations are of a view that is open, and send lines of its window or of the request alone
abbrev pub SendsTo : Run → Option OpenView → List Op → Type 0
SendsTo request None ops = ⊥
SendsTo request (Some view) ops = SendsWithin view.document.view.window request 0 ops

-- the note can be read, is of one of these views, and sends lines of its window, or requested of it, alone
abbrev pub NoteSendsTo : (List ℕ → Run) → List OpenView → Option ViewUpdate → Type 0
NoteSendsTo requests views None = ⊥
NoteSendsTo requests views (Some note) = SendsTo (requests note.view) (view_of views note.view) note.update.ops

-- so does each of the notes
abbrev pub NotesSendTo : (List ℕ → Run) → List OpenView → List (Option ViewUpdate) → Type 0
NotesSendTo requests views notes = AllByRecursion (NoteSendsTo requests views) notes

-- THE BYTES SHOW THE JOURNAL: they are the pieces of its entries. After each entry the views that are open are shown by what was
-- written by then, with the lines that this entry requested; and each update that it wrote is of one of them and sends lines of its
-- window, or that the entry requested, alone
pub record Shows (terms : Terms) (journal : List Entry) (bytes : List ℕ) : Type 0 where
  pub pieces : bytes ≡ written (first_session terms) journal
  pub screens : (front back : List Entry) → journal ≡ front ++ back → AreShown (last_requested front) (views_of terms front) (written (first_session terms) front)
  pub sends : (front : List Entry) (entry : Entry) (back : List Entry) → journal ≡ front ++ (entry ∷ back) →
      NotesSendTo (requested entry.command.act) (views_of terms (front ++ entry ∷ []))
      (updates_in (piece_of (session_of terms front) entry))
