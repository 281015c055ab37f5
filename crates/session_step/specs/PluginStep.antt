-- WHAT A LINE OF A PLUGIN COMES TO: why it is refused, or what it does to a view, and what it is answered.
use Rattle.std.specs.Prelude.{ℕ, Bool, if◌then◌else◌, List, [], ◌∷◌, codes, Option, Some, None, option_map}
use Rattle.std.specs.Str.{bytes_eq}
use Rattle.serde_json.specs.Data.{Data, null}
use Rattle.plain_edits.specs.declared.delta.Delta.{Delta}
use Rattle.plain_edits.specs.declared.style.Style.{Style}
use Rattle.xi_plain.specs.declared.span.WireSpan.{WireSpan}
use Rattle.xi_plain.specs.declared.command.Id.{Id}
use Rattle.xi_plain.specs.declared.command.Fault.TheVariants.{BadParams}
use Rattle.xi_plain.specs.declared.command.Act.{Act}
use Rattle.xi_plain.specs.declared.command.Act.TheVariants as act
use Rattle.view_update.specs.declared.note.NumberedStyle.{NumberedStyle}
use Rattle.view_update.specs.declared.note.ViewUpdate.{ViewUpdate}
use Rattle.plugin_wire.specs.Told.{Told, whole_data}
use Rattle.entry_lines.specs.Answer.{Reply, alerting, silent}
use Rattle.entry_lines.specs.Piece.{entry_messages}
use Rattle.entry_lines.specs.PluginAnswer.{Verdict, chunk_data, edited_data, faults, gives, refuses}
use Rattle.rev_engine.specs.declared.edit.Edit.{Edit as Given}
use Rattle.doc_text.specs.Fault.{member_name}
use Rattle.doc_text.specs.Refusal.{DocRefusal, of_edit, of_range}
use Rattle.doc_session.specs.Document.{Document}
use Rattle.doc_session.specs.Step.{EventStep, event_step, refusal_at}
use Rattle.doc_session.specs.declared.event.Body.{Body}
use Rattle.doc_session.specs.declared.event.Body.TheVariants.{Null, Chunk, Copied, Edited, Lines}
use Rattle.doc_session.specs.declared.event.Event.{Event}
use Rattle.doc_session.specs.declared.event.Event.TheVariants.{Ack, Count, Edit, Ended, Read, Spans}
use Rattle.session_step.specs.ViewSteps.{OpenView, named_view, news_for, stepped, told, updates_for}
use Rattle.style_numbers.specs.Numbers.{new_styles, spans_with_ids, styles_with}

-- ---- what is asked

-- an edit as its document is asked it, which finds the group itself
abbrev pub edit_by : ℕ → ℕ → Delta → ℕ → Bool → Given
edit_by caller rev delta priority after_cursor =
    record { rev = rev; delta = delta; priority = priority; after_cursor = after_cursor; author = caller; group = 0 }

-- what is asked of the document of a view: the view's name, and the event
pub record AskedEvent : Type 0 where
  pub view : List ℕ
  pub event : Event

-- THE EVENT that a plugin asks, if it asks one, where the session has these styles before
abbrev pub asked_event : List Style → ℕ → Act → Option AskedEvent
asked_event styles caller (act.PluginEdit view rev delta priority after_cursor author named) =
    Some (record { view = view; event = Edit caller (edit_by caller rev delta priority after_cursor) named })
asked_event styles caller (act.GetData view rev start max) = Some (record { view = view; event = Read caller rev start max })
asked_event styles caller (act.UpdateSpans view rev start len spans) =
    Some (record { view = view; event = Spans caller rev start len (spans_with_ids styles spans) })
asked_event styles caller (act.LineCount view) = Some (record { view = view; event = Count caller })
asked_event styles caller (act.Ack view rev) = Some (record { view = view; event = Ack caller rev })
asked_event styles caller act = None

-- the spans that it says, if it says any
abbrev pub spans_of : Act → List WireSpan
spans_of (act.UpdateSpans view rev start len spans) = spans
spans_of act = []

-- ---- why it is refused

-- the verdict on what a document refuses
abbrev pub refused_verdict : DocRefusal → Verdict
refused_verdict (of_edit refusal) = refuses refusal
refused_verdict (of_range member) = faults (BadParams (member_name member))

-- that on an event in the view that was named, where it is refused: since no such view is open, or else by its document
abbrev pub event_refusal : Option OpenView → Event → Option Verdict
event_refusal None event = Some (faults (BadParams (codes "view_id")))
event_refusal (Some view) event = option_map refused_verdict (refusal_at view.document event)

abbrev pub asked_refusal : List OpenView → Option AskedEvent → Option Verdict
asked_refusal views None = None
asked_refusal views (Some asked) = event_refusal (named_view views asked.view) asked.event

-- THE REFUSAL of what a plugin asks, if it is refused: by its line alone, and else by the event that it asks
abbrev pub plugin_refusal : List OpenView → List Style → ℕ → Act → Option Verdict
plugin_refusal views styles caller (act.Bad fault) = Some (faults fault)
plugin_refusal views styles caller act = asked_refusal views (asked_event styles caller act)

-- ---- what it comes to

-- WHAT AN ACT OF A PLUGIN COMES TO: its own answer; what the front end is told, which is an alert at most, the styles that are new, and
-- updates; the views after it; and what all plugins are told
pub record PluginOutcome : Type 0 where
  pub verdict : Verdict
  pub reply : Reply
  pub styles : List NumberedStyle
  pub views : List OpenView
  pub updates : List ViewUpdate
  pub news : List Told

-- the result of an event. (What was copied is told to the front end alone.)
abbrev pub body_data : Body → Data
body_data Null = null
body_data (Copied text) = null
body_data (Edited rev group) = edited_data rev group
body_data (Chunk text offset) = chunk_data text offset
body_data (Lines count) = whole_data count

-- the views where the one with this id has this document
abbrev pub with_document : List ℕ → Document → List OpenView → List OpenView
with_document id document [] = []
with_document id document (view ∷ views) =
    if bytes_eq id view.id then record view { document = document } ∷ views else view ∷ with_document id document views

-- a view takes its step, and no other does; these styles are new
abbrev pub step_outcome : List NumberedStyle → List OpenView → OpenView → EventStep → PluginOutcome
step_outcome fresh views view step = record {
  verdict = gives (body_data step.body);
  reply = silent;
  styles = fresh;
  views = with_document view.id step.document views;
  updates = updates_for view.id step.update;
  news = news_for view.id step.notice;
}

-- no view takes a step, and the front end is told this
abbrev pub telling : List OpenView → Reply → PluginOutcome
telling views reply = record { verdict = gives null; reply = reply; styles = []; views = views; updates = []; news = [] }

-- an event in the view that was named. (Where that is not open, the event is refused.)
abbrev pub event_outcome : List NumberedStyle → List OpenView → Option OpenView → Event → PluginOutcome
event_outcome fresh views None event = telling views silent
event_outcome fresh views (Some view) event = step_outcome fresh views view (event_step view.document event)

abbrev pub asked_outcome : List NumberedStyle → List OpenView → Option AskedEvent → PluginOutcome
asked_outcome fresh views None = telling views silent
asked_outcome fresh views (Some asked) = event_outcome fresh views (named_view views asked.view) asked.event

-- the session of a plugin ends in each document
abbrev pub ended_step : ℕ → OpenView → EventStep
ended_step caller view = event_step view.document (Ended caller)

abbrev pub ended_outcome : ℕ → List OpenView → PluginOutcome
ended_outcome caller views = record (telling (stepped (ended_step caller) views) silent) { updates = told (ended_step caller) views }

-- THE OUTCOME of an act of a plugin that is not refused, where the session has these styles before
abbrev pub plugin_outcome : List OpenView → List Style → ℕ → Act → PluginOutcome
plugin_outcome views styles caller (act.Alert msg) = telling views (alerting msg)
plugin_outcome views styles caller act.Ended = ended_outcome caller views
plugin_outcome views styles caller act = asked_outcome (new_styles styles (spans_of act)) views (asked_event styles caller act)

-- THE STYLES after it
abbrev pub styles_after : List Style → Act → List Style
styles_after styles act = styles_with styles (spans_of act)

-- the messages of its entry in their order
abbrev pub plugin_messages : Id → PluginOutcome → List Data
plugin_messages id done = entry_messages id done.reply done.styles done.updates None
