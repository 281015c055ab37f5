-- Laws: what the definitions of a session come to, whatever its journal.
use Rattle.session_step.specs.declared.terms.Terms.{Terms}
use Rattle.std.specs.Prelude.{◌≡◌, ◌↔◌, ℕ, ◌+◌, ◌≤◌, ◌==◌, ◌&&◌, Bool, true, false, List, [], ◌∷◌, ◌++◌, length, codes, Some, None}
use Rattle.std.specs.List.{AllByRecursion, list_any}
use Rattle.std.specs.Str.{bytes_eq, is_utf8}
use Rattle.serde_json.specs.Data.{Data}
use Rattle.serde_json.specs.Find.{get}
use Rattle.plain_edits.specs.History.{head}
use Rattle.plain_edits.specs.declared.style.Style.{Style}
use Rattle.xi_plain.specs.declared.command.Act.{Act}
use Rattle.xi_plain.specs.declared.command.Act.TheVariants.{Ended, PluginEdit}
use Rattle.xi_plain.specs.declared.config.Notice.{Notice}
use Rattle.xi_plain.specs.declared.entry.Entry.{Entry}
use Rattle.xi_plain.specs.declared.entry.ShelfNote.{ShelfNote}
use Rattle.xi_plain.specs.declared.entry.ShelfNote.TheVariants.{Failed, Held}
use Rattle.xi_plain.specs.Journal.{may_have_note}
use Rattle.entry_lines.specs.Answer.{not_text, shelf_failed}
use Rattle.plain_screen.specs.declared.screen.Update.{Update}
use Rattle.plugin_wire.specs.Told.{Told, changed}
use Rattle.json_rpc.specs.Line.{line_of, IsLineOf}
use Rattle.json_rpc.specs.Response.{note_data, text_data}
use Rattle.view_update.specs.declared.note.NumberedStyle.{NumberedStyle}
use Rattle.view_update.specs.Fair.{IsFairUpdate}
use Rattle.view_update.specs.Reading.{read_params}
use Rattle.view_update.specs.Written.{update_data}
use Rattle.doc_text.specs.Collecting.{HasNoneLeft, session_of as session_in}
use Rattle.session_step.specs.declared.opened.Opened.{Opened}
use Rattle.session_step.specs.Views.{Stands}
use Rattle.session_step.specs.Accepted.{AreAccepted}
use Rattle.session_step.specs.News.{news_of}
use Rattle.session_step.specs.PluginStep.{plugin_outcome}
use Rattle.session_step.specs.Session.{OpenView, HaveRevisions, Session, first_session, given_by, is_front, messages_by, named_view, outcome, session_of, step, views_of}
use Rattle.core_session.specs.Shelves.{asks_as}
use Rattle.core_session.specs.Shows.{rebuilt}

-- a document has at most as many revisions as its journal has entries
abbrev pub RevisionsAreFew : Type 0
RevisionsAreFew = (terms : Terms) (journal : List Entry) → HaveRevisions (length journal) (views_of terms journal)

-- whether an end of the session of the plugin with this number stands among these entries
abbrev pub is_end : Act → Bool
is_end Ended = true
is_end act = false

abbrev pub has_ended : List Entry → ℕ → Bool
has_ended entries caller = list_any (λ entry. is_end entry.command.act && (entry.caller == caller)) entries

-- no plugin's session is open
abbrev pub NoneIsOpen : Terms → List Entry → Type 0
NoneIsOpen terms journal = (caller : ℕ) → 1 ≤ caller → caller ≤ terms.plugins → has_ended journal caller ≡ true

-- A PLUGIN'S SESSION IS OPEN UNTIL ITS END, in every view: there it has ended exactly where an end of it stands in the journal, also in one that
-- was opened after that
abbrev pub EndsAreEverywhere : Type 0
EndsAreEverywhere = (terms : Terms) (journal : List Entry) (caller : ℕ) → 1 ≤ caller → caller ≤ terms.plugins →
    AllByRecursion (λ (view : OpenView). (session_in view.document.text.sessions caller ≡ None) ↔ (has_ended journal caller ≡ true))
    (views_of terms journal)

-- NOTHING WAITS that may be collected, after any entries of the front end and of plugins: of each view what is at rest by the least
-- acknowledgement of its open sessions; and where no plugin's session is open, each group that no undo reaches any more
abbrev pub NothingWaits : Type 0
NothingWaits = (held : List Opened) (terms : Terms) (journal : List Entry) → Stands held (views_of terms journal) →
    AllByRecursion (λ view. HasNoneLeft view.document.text × (NoneIsOpen terms journal → view.document.text.groups.retired ≡ []))
    (views_of terms journal)

-- bytes with a note `update` that can't be read show no screen of any view, whatever stands in it
abbrev pub UnreadShowsNothing : Type 0
UnreadShowsNothing = (id : List ℕ) (params : Data) → IsLineOf (note_data (codes "update") params) (line_of (note_data (codes "update") params)) →
    read_params params ≡ None → rebuilt id (line_of (note_data (codes "update") params)) ≡ None

-- bytes with an update of another view leave a screen as it was
abbrev pub OtherViewIsPassedOver : Type 0
OtherViewIsPassedOver = (id view : List ℕ) (update : Update) → IsFairUpdate view update → bytes_eq view id ≡ false →
    rebuilt id (line_of (update_data view update)) ≡ Some []

-- CODE 1, that the shelf failed, answers an entry exactly where its note says so
abbrev pub ShelfFailureIsTold : Type 0
ShelfFailureIsTold = (session : Session) (act : Act) (note : ShelfNote) → may_have_note act note ≡ true → asks_as session.views act note ≡ true →
    ((outcome session act (given_by note)).reply ≡ shelf_failed) ↔ (note ≡ Failed)

-- the note holds bytes that are no text in UTF-8
abbrev pub HoldsNoText : ShelfNote → Type 0
HoldsNoText (Held bytes) = is_utf8 bytes ≡ false
HoldsNoText note = ⊥

-- CODE 2, that a file is no text, answers an entry exactly where its note holds such bytes
abbrev pub NoTextIsTold : Type 0
NoTextIsTold = (session : Session) (act : Act) (note : ShelfNote) → may_have_note act note ≡ true → asks_as session.views act note ≡ true →
    ((outcome session act (given_by note)).reply ≡ not_text) ↔ HoldsNoText note

-- all views are laid out and edited as their session is
abbrev pub AllAreConfigured : Type 0
AllAreConfigured = (terms : Terms) (journal : List Entry) →
    AllByRecursion (λ (view : OpenView). view.document.view.config ≡ (session_of terms journal).config) (views_of terms journal)

-- each document has a session of each plugin, which may have ended
abbrev pub AllHaveSessions : Type 0
AllHaveSessions = (terms : Terms) (journal : List Entry) →
    AllByRecursion (λ (view : OpenView). length view.document.text.sessions ≡ terms.plugins) (views_of terms journal)

-- the message asks the front end to show a place
abbrev pub IsScrolling : Data → Type 0
IsScrolling message = get (codes "method") message ≡ Some (text_data (codes "scroll_to"))

-- NO ENTRY OF A PLUGIN SCROLLS: none of the messages that it writes asks for that
abbrev pub PluginsScrollNothing : Type 0
PluginsScrollNothing = (session : Session) (entry : Entry) → is_front entry ≡ false →
    AllByRecursion (λ message. IsScrolling message → ⊥) (messages_by (is_front entry) session entry)

-- this is told, and nothing else: a revision of the view by this author, the next one after its head
pub record TellsNext (view : OpenView) (author : ℕ) (news : List Told) : Type 0 where
  pub notice : Notice
  pub alone : news ≡ changed notice ∷ []
  pub of_view : notice.view ≡ view.id
  pub by_author : notice.author ≡ author
  pub next : notice.rev ≡ head view.document.text.history + 1

-- what plugins are told of an act of one of them: of an edit in a view that is open, the revision that it makes; of no other act anything
abbrev pub TellsEdit : List OpenView → ℕ → Act → List Told → Type 0
TellsEdit views caller (PluginEdit name rev delta priority after_cursor author named) news =
    (view : OpenView) → named_view views name ≡ Some view → TellsNext view caller news
TellsEdit views caller asks news = news ≡ []

-- EACH EDIT OF A PLUGIN IS TOLD ONCE, to its author too, under the author's number; and nothing else that plugins ask is told
abbrev pub EditsAreTold : Type 0
EditsAreTold = (terms : Terms) (journal : List Entry) (entry : Entry) → 1 ≤ terms.plugins → is_front entry ≡ false →
    TellsEdit (views_of terms journal) entry.caller entry.command.act (news_of (session_of terms journal) entry)

-- the styles that an entry tells the front end, by whether it is the front end's, and those of entries, one after the other
abbrev pub styles_by : Bool → Session → Entry → List NumberedStyle
styles_by true session entry = []
styles_by false session entry = (plugin_outcome session.views session.styles entry.caller entry.command.act).styles

abbrev pub styles_told : Session → List Entry → List NumberedStyle
styles_told session [] = []
styles_told session (entry ∷ entries) = styles_by (is_front entry) session entry ++ styles_told (step session entry) entries

-- styles with their ids, of which the first has this one
abbrev pub styles_with_ids : ℕ → List Style → List NumberedStyle
styles_with_ids id [] = []
styles_with_ids id (style ∷ styles) = record { id = id; style = style } ∷ styles_with_ids (id + 1) styles

-- EACH STYLE IS TOLD ONCE, by the entry that uses it first, under an id that counts from 2 over the whole session
abbrev pub StylesAreToldOnce : Type 0
StylesAreToldOnce = (terms : Terms) (journal : List Entry) → AreAccepted terms journal →
    styles_told (first_session terms) journal ≡ styles_with_ids 2 (session_of terms journal).styles
