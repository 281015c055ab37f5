-- THE STEP: what an event comes to in a plain document.
use Rattle.std.specs.Prelude.{◌≡◌, ℕ, ◌+◌, ◌-◌, ◌<◌, ◌≤◌, Bool, true, false, if◌then◌else◌, List, length, map, Option, Some, None, option_map, ⊤}
use Rattle.plain_text.specs.Lines.{logical_lines}
use Rattle.plain_text.specs.declared.run.Run.{Run}
use Rattle.plain_text.specs.declared.selection.Region.{Region}
use Rattle.xi_plain.specs.Chunk.{chunk_at}
use Rattle.xi_plain.specs.declared.config.Config.{Config}
use Rattle.xi_plain.specs.declared.config.Notice.{Notice}
use Rattle.xi_plain.specs.declared.command.EditAct.{EditAct}
use Rattle.xi_plain.specs.declared.command.EditAct.TheVariants.{Redo, RequestLines, Undo}
use Rattle.plain_screen.specs.declared.screen.Update.{Update}
use Rattle.plain_edits.specs.Caret.{moved_regions}
use Rattle.plain_edits.specs.History.{History, head, text_at}
use Rattle.plain_edits.specs.Edits.{Refusal}
use Rattle.selection_core.specs.Selection.{merged_regions}
use Rattle.edit_ops.specs.Commands.{Effect, copied_text, effect_of}
use Rattle.edit_ops.specs.Regions.{without_goal}
use Rattle.undo_groups.specs.Groups.{Groups, next_undo, undone_one, next_redo, redone_one}
use Rattle.edit_groups.specs.declared.typing.Kind.{Kind}
use Rattle.edit_groups.specs.Typing.{kind_of}
use Rattle.edit_groups.specs.Grouping.{group_by, named_group}
use Rattle.doc_view.specs.Idle.{do_nothing}
use Rattle.doc_view.specs.View.{View, pieces_in}
use Rattle.doc_session.specs.Layout.{Position}
use Rattle.rev_engine.specs.declared.edit.Edit.{Edit as Given}
use Rattle.doc_session.specs.declared.event.Body.{Body}
use Rattle.doc_session.specs.declared.event.Body.TheVariants.{Null, Chunk, Copied, Edited, Lines}
use Rattle.doc_session.specs.declared.event.Effects.{Effects}
use Rattle.doc_session.specs.declared.event.Event.{Event}
use Rattle.doc_session.specs.declared.event.Event.TheVariants.{Ack, Config as Configure, Count, Edit, Ended, Front, Other, Read, Saved, Spans}
use Rattle.doc_view.specs.declared.looking.Viewing.{Viewing}
use Rattle.doc_view.specs.declared.looking.Viewing.TheVariants.{Layout, Other as NoCommand}
use Rattle.doc_session.specs.Document.{Document, no_request}
use Rattle.doc_view.specs.Looking.{copies, scrolls, scrolls_at, viewed, viewed_lines, viewing_of}
use Rattle.stale_spans.specs.declared.asked.AskedSpans.{AskedSpans}
use Rattle.stale_spans.specs.Asked.{layers_with_spans, moved_layers}
use Rattle.stale_spans.specs.Places.{StandIn}
use Rattle.doc_text.specs.Asking.{acknowledgement_refusal, asked_refusal, asked_spans, plugin_edit, range_refusal, reading_refusal}
use Rattle.doc_text.specs.Collecting.{acknowledged_text, collected_text, ended_text}
use Rattle.doc_text.specs.Notices.{notice_to}
use Rattle.doc_text.specs.Refusal.{DocRefusal, edit_refused}
use Rattle.doc_text.specs.Revisions.{given_text, going_on, saved_text, typed_text, undone_text}
use Rattle.doc_text.specs.Writing.{Writing, head_text}
use Rattle.doc_session.specs.Asking.{front_edit, replacing_delta}
use Rattle.doc_session.specs.Effects.{update_after, settled, scroll_after}
use Rattle.doc_session.specs.PositionView.{position_view}

-- what an event comes to: the document after it, its answer, what the front end is told, and what the plugins are
pub record EventStep : Type 0 where
  pub document : Document
  pub body : Body
  pub update : Option Update
  pub scroll : Option Position
  pub notice : Option Notice

-- an event that requests these lines, after which the document is `next`, before its front end was told: what is answered, where to
-- scroll, if anywhere, and what the plugins are told
abbrev pub step_to : Run → Document → Document → Body → Option Position → Option Notice → EventStep
step_to request document next body scroll notice = record {
  document = settled request document next;
  body = body;
  update = update_after request document next;
  scroll = scroll;
  notice = notice;
}

-- no revision is made
abbrev pub still_step : Document → Document → Body → Option Position → EventStep
still_step document next body scroll = step_to no_request document next body scroll None

-- a revision was made, by this author
abbrev pub revision_step : Document → Document → ℕ → Body → Option Position → EventStep
revision_step document next author body scroll =
    step_to no_request document next body scroll (notice_to document.text next.text.history author)

-- the view after a revision, with these regions: it is of the text then, and styles stay with their characters
abbrev pub revised_view : Document → History → List Region → View
revised_view document history regions = record document.view {
  text = text_at history (head history);
  regions = regions;
  layers = moved_layers document.text.history history document.view.layers;
}

-- THE DOCUMENT AFTER A REVISION that left the text so, with these regions
abbrev pub revised_document : Document → Writing → List Region → Document
revised_document document text regions = record document { text = text; view = revised_view document text.history regions }

-- the document with another text under the same view: one of which only sessions or groups are other
abbrev pub with_text : Document → Writing → Document
with_text document text = record document { text = text }

-- ---- commands of the front end

-- THE EFFECT OF A COMMAND on the text and the regions of a view
abbrev pub effect_in : View → EditAct → Effect
effect_in view act = effect_of view.config view.text (pieces_in view) view.regions act

abbrev pub effect_on : Document → EditAct → Effect
effect_on document act = effect_in document.view act

-- whether it makes no revision: it drops nothing, and adds nothing
abbrev pub is_idle : Document → Effect → Bool
is_idle document effect = do_nothing (length document.view.text) effect.replacements

-- what it is answered: the copied text, or nothing
abbrev pub answer_to : Document → EditAct → Body
answer_to document act = if copies act then Copied (copied_text document.view.text document.view.regions) else Null

-- where the front end scrolls to, if it is asked
abbrev pub scroll_if : Bool → Document → Document → Option Position
scroll_if asked document next = if asked then scroll_after document next else None

-- the document after a command that makes no revision
abbrev pub selected_document : Document → Option Kind → List Region → Document
selected_document document kind regions =
    record document { text = going_on document.text kind; view = record document.view { regions = regions } }

-- the document after one that makes a revision: its edit joins the group of the run that it goes on with, or opens the next
abbrev pub typed_document : Document → Option Kind → Effect → Document
typed_document document kind effect =
    revised_document document (typed_text document.text kind (replacing_delta effect.replacements (head_text document.text))) effect.regions

-- a command that has this effect
abbrev pub no_edit_step : Document → EditAct → Effect → EventStep
no_edit_step document act effect =
    let next = selected_document document (kind_of act) effect.regions in
    still_step document next (answer_to document act) (scroll_if (scrolls act) document next)

abbrev pub typed_step : Document → EditAct → Effect → EventStep
typed_step document act effect =
    let next = typed_document document (kind_of act) effect in
    revision_step document next 0 (answer_to document act) (scroll_if (scrolls act) document next)

abbrev pub command_step : Document → EditAct → Effect → EventStep
command_step document act effect = if is_idle document effect then no_edit_step document act effect else typed_step document act effect

-- ---- lines that leave the text as it is

-- THE STEP OF A LINE THAT ONLY LOOKS: the view's own step; the run ends, no revision is made, and it is answered null
abbrev pub viewed_document : Document → Viewing → Document
viewed_document document viewing = record document { text = going_on document.text None; view = viewed document.view viewing }

abbrev pub viewing_step : Document → Viewing → EventStep
viewing_step document viewing =
    let next = viewed_document document viewing in
    step_to (viewed_lines viewing) document next Null (scroll_if (scrolls_at viewing) document next) None

-- a line that is no command of this document
abbrev pub other_step : Document → EventStep
other_step document = viewing_step document NoCommand

-- ---- undo and redo

-- where the caret rule takes regions: `after_cursor` or not; those that then meet are merged
abbrev pub regions_by : Document → History → Bool → List Region → List Region
regions_by document next after_cursor regions = merged_regions (moved_regions document.text.history next after_cursor regions)

-- an undo or a redo left the groups so; the regions move by the caret rule, and their goals go; styles stay with their characters
abbrev pub undone_document : Document → Groups → Document
undone_document document groups =
    let text = undone_text document.text groups in
    revised_document document text (regions_by document text.history false (map without_goal document.view.regions))

-- an undo or a redo takes this group, where there is one, and leaves the groups so; at its end it makes no revision
abbrev pub history_step : Document → Option ℕ → Groups → EventStep
history_step document None groups = other_step document
history_step document (Some group) groups =
    revision_step document (undone_document document groups) 0 Null (scroll_after document (undone_document document groups))

-- ---- all commands

-- the lines that a command requests: at that line alone
abbrev pub request_of : EditAct → Run
request_of (RequestLines first last) = record { start = first; end = last }
request_of act = no_request

-- a command that does more than look
abbrev pub done_step : Document → EditAct → EventStep
done_step document Undo = history_step document (next_undo document.text.groups) (undone_one document.text.groups)
done_step document Redo = history_step document (next_redo document.text.groups) (redone_one document.text.groups)
done_step document act = command_step document act (effect_on document act)

-- one that only looks, if it is that
abbrev pub looking_step : Document → EditAct → Option Viewing → EventStep
looking_step document act None = done_step document act
looking_step document act (Some viewing) = viewing_step document viewing

-- THE STEP OF A COMMAND of the front end
abbrev pub act_step : Document → EditAct → EventStep
act_step document act = looking_step document act (viewing_of act)

-- ---- plugins

-- a plugin edited the text, in the group that it names or in the next; the regions move by the caret rule and keep their goals
abbrev pub given_document : Document → ℕ → Given → Option ℕ → Document
given_document document caller edit named =
    let text = given_text document.text caller edit named in
    revised_document document text (regions_by document text.history edit.after_cursor document.view.regions)

-- THE STEP OF A PLUGIN'S EDIT: it is told its revision and its group, and nothing is scrolled
abbrev pub plugin_step : Document → ℕ → Given → Option ℕ → EventStep
plugin_step document caller edit named =
    revision_step document (given_document document caller edit named) caller
    (Edited (head document.text.history + 1) (group_by document.text.groups (named_group document.text.history named))) None

-- ---- styles of plugins

-- a plugin said styles of the text of a revision, which come to those of its characters that the head shows; nothing else changes
abbrev pub styled_document : Document → ℕ → AskedSpans → Document
styled_document document caller asked =
    record document { view = record document.view { layers = layers_with_spans document.text.history asked (caller - 1) document.view.layers } }

-- THE STEP OF SPANS: no revision is made, the run of typing goes on, since the front end said nothing, and nothing is scrolled
abbrev pub spans_step : Document → ℕ → AskedSpans → EventStep
spans_step document caller asked = still_step document (styled_document document caller asked) Null None

-- ---- configuration

-- the configuration after an event
abbrev pub config_after : Config → Event → Config
config_after config (Configure next) = next
config_after config event = config

-- ---- saves

-- THE STEP OF A SAVE: the head is the saved revision; the front end is told where that changes whether its text is pristine, nothing is
-- scrolled, and it is answered null
abbrev pub saved_document : Document → Document
saved_document document = with_text document (saved_text document.text)

abbrev pub saved_step : Document → EventStep
saved_step document = still_step document (saved_document document) Null None

-- ---- sessions of plugins, and what they ask

-- what is answered so, while nothing else is told
abbrev pub answered_step : Document → Body → EventStep
answered_step next body = record { document = next; body = body; update = None; scroll = None; notice = None }

-- what a session tells is answered null, and nothing is written
abbrev pub silent_step : Document → EventStep
silent_step next = answered_step next Null

-- THE STEP OF A READING: the chunk of the text of the revision from this offset on; the document is the same
abbrev pub read_step : Document → ℕ → ℕ → ℕ → EventStep
read_step document rev start max = answered_step document (Chunk (chunk_at (text_at document.text.history rev) start max) start)

-- THE STEP OF A COUNT: how many logical lines the head text has; the document is the same
abbrev pub count_step : Document → EventStep
count_step document = answered_step document (Lines (length (logical_lines (head_text document.text))))

-- ---- all events

-- what an event that is not refused comes to, before anything is collected
abbrev pub taken_step : Document → Event → EventStep
taken_step document (Front act) = act_step document act
taken_step document (Edit caller edit named) = plugin_step document caller edit named
taken_step document (Spans caller rev start len spans) = spans_step document caller (asked_spans rev start len spans)
taken_step document (Read caller rev start max) = read_step document rev start max
taken_step document (Count caller) = count_step document
taken_step document (Ack caller rev) = silent_step (with_text document (acknowledged_text document.text caller rev))
taken_step document (Ended caller) = silent_step (with_text document (ended_text document.text caller))
taken_step document (Configure config) = viewing_step document (Layout config)
taken_step document Saved = saved_step document
taken_step document Other = other_step document

-- the document in which what may be collected is collected
abbrev pub collected_document : Document → Document
collected_document document = with_text document (collected_text document.text)

-- THE STEP of an event that is not refused: then old groups are collected
abbrev pub event_step : Document → Event → EventStep
event_step document event =
    record (taken_step document event) { document = collected_document (taken_step document event).document }

-- the lines that an event requests
abbrev pub requested_by : Event → Run
requested_by (Front act) = request_of act
requested_by event = no_request

-- whether the front end is told what it lacks
abbrev pub tells : Event → Bool
tells (Read caller rev start max) = false
tells (Count caller) = false
tells (Ack caller rev) = false
tells (Ended caller) = false
tells event = true

-- why a command is refused that has this effect
abbrev pub command_refusal : Document → Effect → Option Refusal
command_refusal document effect =
    if is_idle document effect then None else asked_refusal document.text (front_edit document None effect.replacements)

-- THE REFUSAL of an event. (In which group an edit goes is no cause.)
abbrev pub refusal_at : Document → Event → Option DocRefusal
refusal_at document (Front act) = edit_refused (command_refusal document (effect_on document act))
refusal_at document (Edit caller edit named) = edit_refused (asked_refusal document.text (plugin_edit document.text caller edit None))
refusal_at document (Spans caller rev start len spans) = range_refusal document.text.history (asked_spans rev start len spans)
refusal_at document (Read caller rev start max) = reading_refusal document.text.history rev start
refusal_at document (Count caller) = None
refusal_at document (Ack caller rev) = edit_refused (acknowledgement_refusal document.text.history rev)
refusal_at document (Ended caller) = None
refusal_at document (Configure config) = None
refusal_at document Saved = None
refusal_at document Other = None

-- THE EVENTS that may come to a document with so many plugins: what a plugin does is done by one of these, each of its spans stands in
-- their range, and a configuration has a tab width
abbrev pub IsEventFor : ℕ → Event → Type 0
IsEventFor plugins (Front act) = ⊤
IsEventFor plugins (Edit caller edit named) = (1 ≤ caller) × (caller ≤ plugins)
IsEventFor plugins (Spans caller rev start len spans) = (1 ≤ caller) × (caller ≤ plugins) × StandIn len spans
IsEventFor plugins (Read caller rev start max) = (1 ≤ caller) × (caller ≤ plugins)
IsEventFor plugins (Count caller) = (1 ≤ caller) × (caller ≤ plugins)
IsEventFor plugins (Ack caller rev) = (1 ≤ caller) × (caller ≤ plugins)
IsEventFor plugins (Ended caller) = (1 ≤ caller) × (caller ≤ plugins)
IsEventFor plugins (Configure config) = 0 < config.tab
IsEventFor plugins Saved = ⊤
IsEventFor plugins Other = ⊤

-- the effects are those of the step
pub record AreEffectsOf (step : EventStep) (effects : Effects) : Type 0 where
  pub body : effects.body ≡ step.body
  pub update : effects.update ≡ step.update
  pub scroll : option_map position_view effects.scroll ≡ step.scroll
  pub notice : effects.notice ≡ step.notice
