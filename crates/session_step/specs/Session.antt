-- THE PLAIN SESSION: what the entries of a journal do, one after the other, and what each writes.
use Rattle.std.specs.Prelude.{ℕ, ◌+◌, ◌≤◌, ◌==◌, not, Bool, true, false, if◌then◌else◌, List, [], ◌∷◌, ◌++◌, codes, Option, Some, None, unwrap_or}
use Rattle.std.specs.List.{AllByRecursion, filter, list_any}
use Rattle.std.specs.Str.{bytes_eq, chars, is_utf8}
use Rattle.serde_json.specs.Data.{Data, null}
use Rattle.xi_plain.specs.declared.command.Id.{Id}
use Rattle.xi_plain.specs.declared.command.Fault.{Fault}
use Rattle.xi_plain.specs.declared.command.Fault.TheVariants.{BadParams}
use Rattle.xi_plain.specs.declared.command.EditAct.{EditAct}
use Rattle.xi_plain.specs.declared.command.Act.{Act}
use Rattle.xi_plain.specs.declared.command.Act.TheVariants.{Bad, Nothing, Configure, NewView, CloseView, Save, Edit, Closing, Ended as Over}
use Rattle.xi_plain.specs.declared.command.Command.{Command}
use Rattle.xi_plain.specs.declared.config.Changes.{Changes}
use Rattle.xi_plain.specs.declared.config.Config.{Config}
use Rattle.xi_plain.specs.declared.entry.Entry.{Entry}
use Rattle.xi_plain.specs.declared.entry.ShelfNote.{ShelfNote}
use Rattle.xi_plain.specs.declared.entry.ShelfNote.TheVariants.{Absent, Done, Failed, Held, NoCall}
use Rattle.plain_edits.specs.declared.style.Style.{Style}
use Rattle.plain_edits.specs.Edits.{spent as spent_by}
use Rattle.plain_edits.specs.History.{head}
use Rattle.doc_session.specs.Layout.{Position}
use Rattle.json_rpc.specs.Response.{text_data}
use Rattle.view_update.specs.declared.note.ViewUpdate.{ViewUpdate}
use Rattle.view_update.specs.declared.note.Scroll.{Scroll}
use Rattle.entry_lines.specs.Answer.{Reply, accepted, not_text, refused, shelf_failed, silent, spent}
use Rattle.entry_lines.specs.Piece.{entry_messages, lines_written}
use Rattle.entry_lines.specs.ViewId.{view_id_of}
use Rattle.doc_session.specs.declared.event.Body.{Body}
use Rattle.doc_session.specs.declared.event.Body.TheVariants.{Null, Chunk, Copied, Edited, Lines}
use Rattle.doc_session.specs.declared.event.Event.TheVariants.{Config as Configured, Ended, Front, Other, Saved}
use Rattle.doc_session.specs.Document.{Document, loaded_document}
use Rattle.doc_text.specs.Refusal.{DocRefusal, of_edit}
use Rattle.doc_session.specs.Step.{EventStep, event_step, refusal_at}
use Rattle.session_step.specs.declared.terms.Terms.{Terms}
pub use Rattle.session_step.specs.ViewSteps.{OpenView, view_of, named_view, updates_for, stepped, told}
use Rattle.session_step.specs.PluginStep.{plugin_messages, plugin_outcome, styles_after}
use Rattle.session_step.specs.declared.given.Given.{Given}
use Rattle.session_step.specs.declared.given.Given.TheVariants as given

-- A SESSION: what it was made with, how all its texts are laid out and edited, the views that are open in the order of their openings, how
-- many were opened, the styles in the order of their first uses, and the plugins whose sessions have ended, in the order of their ends
pub record Session : Type 0 where
  pub terms : Terms
  pub config : Config
  pub views : List OpenView
  pub opened : ℕ
  pub styles : List Style
  pub ended : List ℕ

-- whether an entry is the front end's
abbrev pub is_front : Entry → Bool
is_front entry = entry.caller == 0

-- what an act comes to: what it is answered, the views that are open after it, and the updates and the place to scroll to that the
-- front end is told, if any
pub record Outcome : Type 0 where
  pub reply : Reply
  pub views : List OpenView
  pub updates : List ViewUpdate
  pub scroll : Option Scroll

-- the place to scroll to, as it is told of the view with this id, where there is one
abbrev pub scroll_for : List ℕ → Option Position → Option Scroll
scroll_for id None = None
scroll_for id (Some point) = Some (record { view = id; line = point.line; col = point.col })

-- each view takes its step, which is answered so
abbrev pub taking : Reply → Option Scroll → (OpenView → EventStep) → List OpenView → Outcome
taking reply scroll steps views = record { reply = reply; views = stepped steps views; updates = told steps views; scroll = scroll }

-- the step of a view at a line that is none of its own: its run of typing ends, and its front end is told what it lacks
abbrev pub other_step : OpenView → EventStep
other_step view = event_step view.document Other

-- the step of each view where this one takes a step of its own
abbrev pub own_step : OpenView → EventStep → OpenView → EventStep
own_step own step view = if bytes_eq own.id view.id then step else other_step view

-- what is no view's own is answered so
abbrev pub keeping : List OpenView → Reply → Outcome
keeping views reply = taking reply None other_step views

-- an act that is refused is no view's own
abbrev pub refusing : List OpenView → Fault → Outcome
refusing views fault = keeping views (refused fault)

-- nor is one on a view that is not there
abbrev pub refusing_view : List OpenView → Outcome
refusing_view views = refusing views (BadParams (codes "view_id"))

-- the closing leaves the views as they are
abbrev pub leaving : List OpenView → Outcome
leaving views = record { reply = silent; views = views; updates = []; scroll = None }

-- how texts are laid out and edited at first: tabs of four columns, which are typed as such, and lines that are not wrapped
abbrev pub first_config : Config
first_config = record { tab = 4; width = 0; spaces = false }

-- a session without entries
abbrev pub first_session : Terms → Session
first_session terms = record { terms = terms; config = first_config; views = []; opened = 0; styles = []; ended = [] }

-- the configuration after a change: a member of which nothing is said stays
abbrev pub config_with : Config → Changes → Config
config_with config changes = record {
  tab = unwrap_or changes.tab config.tab;
  width = unwrap_or changes.width config.width;
  spaces = unwrap_or changes.spaces config.spaces;
}

-- that of a session after an act
abbrev pub config_after : Config → Act → Config
config_after config (Configure changes) = config_with config changes
config_after config act = config

-- a document once the session of each of these plugins has ended in it
abbrev pub without_sessions : List ℕ → Document → Document
without_sessions [] document = document
without_sessions (caller ∷ callers) document = without_sessions callers (event_step document (Ended caller)).document

-- the document of a view that is opened on this text, where these plugins' sessions have ended: so they have in it
abbrev pub opened_document : Terms → List ℕ → Config → List ℕ → Document
opened_document terms ended config text = without_sessions ended (loaded_document text terms.plugins terms.limit config)

-- the view that is opened after so many, before its front end was told anything
abbrev pub next_view : Terms → List ℕ → Config → ℕ → List ℕ → OpenView
next_view terms ended config opened text = record { id = view_id_of (opened + 1); document = opened_document terms ended config text }

-- a view is opened behind those that are open, and its id is the answer
abbrev pub opening_outcome : Terms → List ℕ → Config → ℕ → List OpenView → List ℕ → Outcome
opening_outcome terms ended config opened views text =
    taking (accepted (text_data (view_id_of (opened + 1)))) None other_step (views ++ next_view terms ended config opened text ∷ [])

-- the step of a view that is told a configuration
abbrev pub config_step : Config → OpenView → EventStep
config_step config view = event_step view.document (Configured config)

-- a change of the configuration is accepted: each view takes its step, and nothing is scrolled
abbrev pub config_outcome : List OpenView → Config → Outcome
config_outcome views config = taking (accepted null) None (config_step config) views

-- the result of an edit of the front end: what was copied, and else null. (Numbers of revisions, chunks and counts of lines are told to plugins alone.)
abbrev pub result_of : Body → Data
result_of Null = null
result_of (Copied text) = text_data text
result_of (Edited rev group) = null
result_of (Chunk text offset) = null
result_of (Lines count) = null

-- the characters that would be spent in all, where an edit is refused for that
abbrev pub spent_total : Option DocRefusal → Option ℕ
spent_total (Some (of_edit (spent_by total))) = Some total
spent_total refusal = None

-- an edit of the front end in a view, where its characters would be spent or not: it is the view's own step, and answered as that says,
-- unless it is refused. (The front end's edits are never refused for another reason.)
abbrev pub edit_came : List OpenView → OpenView → Option ℕ → EventStep → Outcome
edit_came views view None step = taking (accepted (result_of step.body)) (scroll_for view.id step.scroll) (own_step view step) views
edit_came views view (Some total) step = keeping views spent

-- a view is edited
abbrev pub front_outcome : List OpenView → OpenView → EditAct → Outcome
front_outcome views view act =
    edit_came views view (spent_total (refusal_at view.document (Front act))) (event_step view.document (Front act))

-- an edit of the view that was named, where it is open
abbrev pub edit_outcome : List OpenView → Option OpenView → EditAct → Outcome
edit_outcome views None act = refusing_view views
edit_outcome views (Some view) act = front_outcome views view act

-- WHAT THE SHELF GAVE an entry, by its note: the text of a file, which is empty where there is no file, or bytes that are no text; that it
-- wrote the file, that it failed, or nothing where it was not asked
abbrev pub given_by : ShelfNote → Given
given_by (Held bytes) = if is_utf8 bytes then given.Found (chars bytes) else given.NotText
given_by Absent = given.Found []
given_by Done = given.Done
given_by Failed = given.Failed
given_by NoCall = given.Nothing

-- a view is opened on the text of a file; where there is none, no view is
abbrev pub file_outcome : Terms → List ℕ → Config → ℕ → List OpenView → Given → Outcome
file_outcome terms ended config opened views (given.Found text) = opening_outcome terms ended config opened views text
file_outcome terms ended config opened views given.NotText = keeping views not_text
file_outcome terms ended config opened views gave = keeping views shelf_failed

-- a view is opened on an empty text, or on what the shelf gave of its file
abbrev pub open_outcome : Terms → List ℕ → Config → ℕ → List OpenView → Option (List ℕ) → Given → Outcome
open_outcome terms ended config opened views None gave = opening_outcome terms ended config opened views []
open_outcome terms ended config opened views (Some path) gave = file_outcome terms ended config opened views gave

-- how many were opened after an act: one more where a view is opened, and an id is never given again
abbrev pub opened_after : ℕ → Act → Given → ℕ
opened_after opened (NewView None) gave = opened + 1
opened_after opened (NewView (Some path)) (given.Found text) = opened + 1
opened_after opened act gave = opened

-- a view is saved: that is its own step, and answered null
abbrev pub saved_outcome : List OpenView → OpenView → Outcome
saved_outcome views view = taking (accepted null) None (own_step view (event_step view.document Saved)) views

-- A SAVING of a view that is open: it is saved where the shelf wrote its file
abbrev pub stored_outcome : List OpenView → OpenView → Given → Outcome
stored_outcome views view given.Done = saved_outcome views view
stored_outcome views view gave = keeping views shelf_failed

-- the view that was named is saved, where it is open
abbrev pub save_outcome : List OpenView → Option OpenView → Given → Outcome
save_outcome views None gave = refusing_view views
save_outcome views (Some view) gave = stored_outcome views view gave

-- the views but the one with this id
abbrev pub without : List ℕ → List OpenView → List OpenView
without id views = filter (λ (view : OpenView). not (bytes_eq id view.id)) views

-- the view that was named is closed with its document, where it is open
abbrev pub close_outcome : List OpenView → Option OpenView → Outcome
close_outcome views None = refusing_view views
close_outcome views (Some view) = keeping (without view.id views) (accepted null)

-- THE OUTCOME of an act, by what the shelf gave it. (What plugins ask comes in no line of the front end, and is not answered here.)
abbrev pub outcome : Session → Act → Given → Outcome
outcome session (Bad fault) gave = refusing session.views fault
outcome session Nothing gave = keeping session.views (accepted null)
outcome session (Configure changes) gave = config_outcome session.views (config_with session.config changes)
outcome session (NewView path) gave = open_outcome session.terms session.ended session.config session.opened session.views path gave
outcome session (CloseView name) gave = close_outcome session.views (named_view session.views name)
outcome session (Save name path) gave = save_outcome session.views (named_view session.views name) gave
outcome session (Edit name act) gave = edit_outcome session.views (named_view session.views name) act
outcome session Closing gave = leaving session.views
outcome session act gave = keeping session.views silent

-- the messages of an outcome in their order
abbrev pub outcome_messages : Id → Outcome → List Data
outcome_messages id done = entry_messages id done.reply [] done.updates done.scroll

-- the messages of a command of the front end
abbrev pub messages : Session → Command → Given → List Data
messages session command gave = outcome_messages command.id (outcome session command.act gave)

-- those of an entry: by whether it is the front end's, what its act comes to, or what that of its plugin does
abbrev pub messages_by : Bool → Session → Entry → List Data
messages_by true session entry = messages session entry.command (given_by entry.shelf)
messages_by false session entry =
    plugin_messages entry.command.id (plugin_outcome session.views session.styles entry.caller entry.command.act)

-- THE PIECE of an entry: the lines of its messages
abbrev pub piece_of : Session → Entry → List ℕ
piece_of session entry = lines_written (messages_by (is_front entry) session entry)

-- the session after an act of the front end
abbrev pub act_step : Session → Act → Given → Session
act_step session act gave = record session {
  config = config_after session.config act;
  views = (outcome session act gave).views;
  opened = opened_after session.opened act gave;
}

-- the plugins whose sessions have ended once that of this one has: each stands there once
abbrev pub ended_with : List ℕ → ℕ → List ℕ
ended_with ended caller = if list_any (λ other. other == caller) ended then ended else ended ++ caller ∷ []

-- the same after an act of the plugin
abbrev pub ended_after : List ℕ → ℕ → Act → List ℕ
ended_after ended caller Over = ended_with ended caller
ended_after ended caller act = ended

-- the session after an act of a plugin
abbrev pub plugin_act_step : Session → ℕ → Act → Session
plugin_act_step session caller act = record session {
  views = (plugin_outcome session.views session.styles caller act).views;
  styles = styles_after session.styles act;
  ended = ended_after session.ended caller act;
}

-- the session after an entry, by whether that is the front end's
abbrev pub step_by : Bool → Session → Entry → Session
step_by true session entry = act_step session entry.command.act (given_by entry.shelf)
step_by false session entry = plugin_act_step session entry.caller entry.command.act

-- THE STEP: the session after an entry, and after entries
abbrev pub step : Session → Entry → Session
step session entry = step_by (is_front entry) session entry

abbrev pub session_after : Session → List Entry → Session
session_after session [] = session
session_after session (entry ∷ entries) = session_after (step session entry) entries

-- the session that the entries of a journal define, and its views
abbrev pub session_of : Terms → List Entry → Session
session_of terms journal = session_after (first_session terms) journal

abbrev pub views_of : Terms → List Entry → List OpenView
views_of terms journal = (session_of terms journal).views

-- WHAT ENTRIES WRITE: the pieces of each, one after the other
abbrev pub written : Session → List Entry → List ℕ
written session [] = []
written session (entry ∷ entries) = piece_of session entry ++ written (step session entry) entries

-- the document of each of the views has at most so many revisions after its loading
abbrev pub HaveRevisions : ℕ → List OpenView → Type 0
HaveRevisions most views = AllByRecursion (λ view. head view.document.text.history ≤ most) views
