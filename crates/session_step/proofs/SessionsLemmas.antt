-- The sessions of a document after an event, which are as many as before.
use Rattle.std.proofs.Common.{◌≡◌, ℕ, ◌-◌, Bool, true, false, if◌then◌else◌, List, length, Option, Some, None, refl, ap, ◌∙◌}
use Rattle.std.proofs.lemmas.List.{length-set}
use Rattle.plain_edits.specs.Collection.{Collection}
use Rattle.xi_plain.specs.declared.command.EditAct.{EditAct}
use Rattle.xi_plain.specs.declared.command.EditAct.TheVariants.{Redo, Undo}
use Rattle.edit_ops.specs.Commands.{Effect}
use Rattle.undo_groups.specs.Groups.{Groups, next_redo, next_undo, redone_one, undone_one}
use Rattle.doc_text.specs.Collecting.{acknowledged_by, collected_text, collection_after, session_of, with_collection, with_session}
use Rattle.doc_text.specs.Writing.{Writing}
use Rattle.doc_session.specs.declared.event.Event.{Event}
use Rattle.doc_session.specs.declared.event.Event.TheVariants.{Ack, Config as Configure, Count, Edit, Ended, Front, Other, Read, Saved, Spans}
use Rattle.doc_view.specs.declared.looking.Viewing.{Viewing}
use Rattle.doc_session.specs.Document.{Document}
use Rattle.doc_view.specs.Looking.{viewing_of}
use Rattle.doc_session.specs.Step.{act_step, command_step, done_step, effect_on, event_step, history_step, no_edit_step, is_idle, looking_step, taken_step, typed_step}

-- ---- commands of the front end

command_same : (document : Document) (act : EditAct) (effect : Effect) → (command_step document act effect).document.text.sessions ≡ document.text.sessions
command_same document act effect = by (is_idle document effect)
  where
    by : (idle : Bool) → (if idle then no_edit_step document act effect else typed_step document act effect).document.text.sessions ≡ document.text.sessions
    by true = refl
    by false = refl

history_same : (document : Document) (group : Option ℕ) (groups : Groups) → (history_step document group groups).document.text.sessions ≡ document.text.sessions
history_same document None groups = refl
history_same document (Some group) groups = refl

done_same : (document : Document) (act : EditAct) → (done_step document act).document.text.sessions ≡ document.text.sessions
done_same document Undo = history_same document (next_undo document.text.groups) (undone_one document.text.groups)
done_same document Redo = history_same document (next_redo document.text.groups) (redone_one document.text.groups)
done_same document act = command_same document act (effect_on document act)

act_same : (document : Document) (act : EditAct) → (act_step document act).document.text.sessions ≡ document.text.sessions
act_same document act = by (viewing_of act)
  where
    by : (viewing : Option Viewing) → (looking_step document act viewing).document.text.sessions ≡ document.text.sessions
    by None = done_same document act
    by (Some viewing) = refl

-- ---- all events

-- THE SESSIONS AFTER AN EVENT: what a plugin acknowledges, and its end
abbrev pub sessions_by : Event → List (Option ℕ) → List (Option ℕ)
sessions_by (Ack caller rev) sessions = with_session sessions caller (acknowledged_by rev (session_of sessions caller))
sessions_by (Ended caller) sessions = with_session sessions caller None
sessions_by event sessions = sessions

taken_by : (document : Document) (event : Event) → (taken_step document event).document.text.sessions ≡ sessions_by event document.text.sessions
taken_by document (Front act) = act_same document act
taken_by document (Edit caller edit named) = refl
taken_by document (Spans caller rev start len spans) = refl
taken_by document (Read caller rev start max) = refl
taken_by document (Count caller) = refl
taken_by document (Ack caller rev) = refl
taken_by document (Ended caller) = refl
taken_by document (Configure config) = refl
taken_by document Saved = refl
taken_by document Other = refl

collected_same : (text : Writing) → (collected_text text).sessions ≡ text.sessions
collected_same text = by (collection_after text)
  where
    by : (found : Option Collection) → (with_collection text found).sessions ≡ text.sessions
    by None = refl
    by (Some found) = refl

pub sessions_by-event_step : (document : Document) (event : Event) →
    (event_step document event).document.text.sessions ≡ sessions_by event document.text.sessions
sessions_by-event_step document event = collected_same (taken_step document event).document.text ∙ taken_by document event

-- an event leaves as many
as_many : (sessions : List (Option ℕ)) (caller : ℕ) (session : Option ℕ) → length (with_session sessions caller session) ≡ length sessions
as_many sessions caller session = length-set sessions (caller - 1) session

length-sessions_by : (event : Event) (sessions : List (Option ℕ)) → length (sessions_by event sessions) ≡ length sessions
length-sessions_by (Ack caller rev) sessions = as_many sessions caller _
length-sessions_by (Ended caller) sessions = as_many sessions caller None
length-sessions_by event sessions = refl

pub sessions-event_step : (document : Document) (event : Event) → length (event_step document event).document.text.sessions ≡ length document.text.sessions
sessions-event_step document event = ap length (sessions_by-event_step document event) ∙ length-sessions_by event document.text.sessions
