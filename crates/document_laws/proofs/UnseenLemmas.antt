-- What is collected is seen by no front end: a step of a document goes like that of the bare one.
use Rattle.std.proofs.Common.{◌≡◌, ℕ, zero, suc, ◌+◌, ◌-◌, ◌≤◌, Bool, true, false, if◌then◌else◌, ◌==◌, List, [], ◌∷◌, length, map, Option, Some, None, refl, ap, ap₂, sym, ◌∙◌, arith}
use Rattle.std.specs.Prelude.{nat_lt, slice_index, slice_set}
use Rattle.std.proofs.lemmas.List.{length-map}
use Rattle.std.proofs.lemmas.Bool.{le-ltb}
use Rattle.plain_text.specs.declared.run.Run.{Run}
use Rattle.plain_text.specs.Numbers.{with_number, without_number}
use Rattle.xi_plain.specs.declared.command.EditAct.{EditAct}
use Rattle.xi_plain.specs.declared.command.EditAct.TheVariants as Acts
use Rattle.xi_plain.specs.declared.config.Notice.{Notice}
use Rattle.edit_ops.specs.Commands.{Effect}
use Rattle.plain_edits.specs.Collection.{Collection}
use Rattle.plain_edits.specs.Delta.{inserted_len, misfit_of}
use Rattle.plain_edits.specs.Edits.{Refusal, collected, misfit_or_spent, unknown}
use Rattle.plain_edits.specs.History.{head, inserted_count, text_at}
use Rattle.rev_engine.specs.Given.{AskedEdit}
use Rattle.undo_groups.specs.Groups.{Groups, groups_of, next_redo, next_undo, redone_one, undone_one}
use Rattle.edit_groups.specs.Grouping.{run_group}
use Rattle.edit_groups.specs.Typing.{kind_of, run_on}
use Rattle.doc_session.specs.declared.event.Body.{Body}
use Rattle.doc_session.specs.declared.event.Body.TheVariants.{Null}
use Rattle.doc_session.specs.declared.event.Event.{Event}
use Rattle.doc_session.specs.declared.event.Event.TheVariants.{Ack, Config as Configure, Count, Edit, Ended, Front, Other, Read, Saved, Spans}
use Rattle.doc_text.specs.Asking.{asked_refusal}
use Rattle.doc_text.specs.Collecting.{acknowledged_text, collection_after, ended_text, least_acknowledged, with_collection}
use Rattle.doc_text.specs.Notices.{notice_of, notice_to}
use Rattle.doc_text.specs.Revisions.{edited_text}
use Rattle.doc_session.specs.Asking.{front_edit}
use Rattle.doc_session.specs.Document.{Document, no_request}
use Rattle.doc_view.specs.declared.looking.Viewing.{Viewing}
use Rattle.doc_view.specs.declared.looking.Viewing.TheVariants.{Layout, Other as NoCommand}
use Rattle.doc_view.specs.Looking.{scrolls, viewed_lines, viewing_of}
use Rattle.doc_session.specs.Effects.{settled, update_after}
use Rattle.doc_session.specs.Layout.{Position}
use Rattle.doc_text.specs.Refusal.{edit_refused}
use Rattle.doc_session.specs.Step.{EventStep, act_step, answer_to, collected_document, command_step, done_step, effect_on, event_step, history_step, no_edit_step, is_idle, looking_step, refusal_at, revised_document, revision_step, saved_document, scroll_if, selected_document, step_to, taken_step, typed_step, undone_document, viewed_document, viewing_step, with_text}
use Rattle.edit_groups.proofs.ForCallers.{least-within}
use Rattle.doc_text.proofs.ForCallers.{floor-found, head-after}
use Rattle.document_laws.specs.Laws.{AcknowledgementsAreUnseen, AreAlike, CollectionIsUnseen, IsOfFront, TellTheSame, after_event, bare, bare_groups}
use Rattle.document_laws.proofs.GroupLemmas.{bare-forgotten, head-undid}

-- ---- two steps that tell the same and leave the same but for what is collected

pub record GoAlong (one other : EventStep) : Type 0 where
  pub tell : TellTheSame one other
  pub same : bare one.document ≡ bare other.document

-- what is left of sessions, once and again
abbrev bare_sessions : List (Option ℕ) → List (Option ℕ)
bare_sessions sessions = map (λ session. None) sessions

bare-twice : (sessions : List (Option ℕ)) → bare_sessions (bare_sessions sessions) ≡ bare_sessions sessions
bare-twice [] = refl
bare-twice (session ∷ sessions) = ap (λ rest. None ∷ rest) (bare-twice sessions)

bare-again : (next : Document) → bare next ≡ bare (with_text next (record next.text { sessions = bare_sessions next.text.sessions }))
bare-again next = ap (λ sessions. with_text next (record (bare next).text { sessions = sessions })) (sym (bare-twice next.text.sessions))

-- the screen of the bare one is the same
bare-settled : (request : Run) (before after : Document) → bare (settled request before after) ≡ settled request (bare before) (bare after)
bare-settled request before after = refl

along-step_to : (request : Run) (d next other : Document) (body : Body) (scroll : Option Position) (notice : Option Notice) → bare next ≡ bare other →
    GoAlong (step_to request d next body scroll notice) (step_to request (bare d) other body scroll notice)
along-step_to request d next other body scroll notice same = record {
  tell = record { body = refl; update = ap (update_after request (bare d)) same; scroll = refl; notice = refl };
  same = bare-settled request d next ∙ ap (settled request (bare d)) same ∙ sym (bare-settled request (bare d) other);
}

-- plugins are told the same, where there are as many
notice-bare : (d next other : Document) (author : ℕ) →
    notice_of d.text.history next.text.history author ≡ notice_of (bare d).text.history other.text.history author →
    notice_to d.text next.text.history author ≡ notice_to (bare d).text other.text.history author
notice-bare d next other author same =
    ap₂ (λ (n : ℕ) (notice : Notice). if n == 0 then None else Some notice) (sym (length-map d.text.sessions (λ session. None))) same

along-revision : (d next other : Document) (body : Body) (scroll : Option Position) → bare next ≡ bare other →
    notice_of d.text.history next.text.history 0 ≡ notice_of (bare d).text.history other.text.history 0 →
    GoAlong (revision_step d next 0 body scroll) (revision_step (bare d) other 0 body scroll)
along-revision d next other body scroll same notice = record {
  tell = record { body = refl; update = ap (update_after no_request (bare d)) same; scroll = refl; notice = notice-bare d next other 0 notice };
  same = ap (settled no_request (bare d)) same;
}

-- ---- commands

-- the document after an edit that joins this group or opens the next
abbrev typed_in : Document → EditAct → Effect → Option ℕ → Document
typed_in d act effect joined = revised_document d (edited_text d.text (front_edit d joined effect.replacements) joined (kind_of act)) effect.regions

abbrev typed_to : Document → EditAct → Effect → Option ℕ → EventStep
typed_to d act effect joined =
    revision_step d (typed_in d act effect joined) 0 (answer_to d act) (scroll_if (scrolls act) d (typed_in d act effect joined))

along-typed : (d : Document) (act : EditAct) (effect : Effect) (joined : Option ℕ) →
    GoAlong (typed_to d act effect joined) (typed_to (bare d) act effect joined)
along-typed d act effect None = along-revision d (typed_in d act effect None) (typed_in (bare d) act effect None) _ _ (bare-again (typed_in d act effect None)) refl
along-typed d act effect (Some group) =
    along-revision d (typed_in d act effect (Some group)) (typed_in (bare d) act effect (Some group)) _ _ (bare-again (typed_in d act effect (Some group))) refl

along-command : (d : Document) (act : EditAct) → GoAlong (command_step d act (effect_on d act)) (command_step (bare d) act (effect_on (bare d) act))
along-command d act = by (is_idle d effect)
  where
    effect : Effect
    effect = effect_on d act

    by : (idle : Bool) → GoAlong (if idle then no_edit_step d act effect else typed_step d act effect)
        (if idle then no_edit_step (bare d) act effect else typed_step (bare d) act effect)
    by true =
        let next = selected_document d (kind_of act) effect.regions in
        along-step_to no_request d next (selected_document (bare d) (kind_of act) effect.regions) _ _ _ (bare-again next)
    by false = along-typed d act effect (run_group (run_on d.text.typing (kind_of act)))

along-viewing : (d : Document) (viewing : Viewing) → GoAlong (viewing_step d viewing) (viewing_step (bare d) viewing)
along-viewing d viewing =
    along-step_to (viewed_lines viewing) d (viewed_document d viewing) (viewed_document (bare d) viewing) Null _ None (bare-again (viewed_document d viewing))

-- ---- undo and redo

along-undo : (d : Document) → GoAlong (act_step d Acts.Undo) (act_step (bare d) Acts.Undo)
along-undo d = by (s.index == 0)
  where
    s : Groups
    s = d.text.groups

    group : ℕ
    group = slice_index s.live (s.index - 1)

    after : List ℕ → Groups
    after retired = groups_of s.live (s.index - 1) retired (with_number s.undone group) s.given

    by : (none : Bool) → GoAlong (history_step d (if none then None else Some group) (if none then s else after s.retired))
        (history_step (bare d) (if none then None else Some group) (if none then bare_groups s else after []))
    by true = along-viewing d NoCommand
    by false =
        let next = undone_document d (after s.retired) in
        along-revision d next (undone_document (bare d) (after [])) _ _ (bare-again next) refl

along-redo : (d : Document) → GoAlong (act_step d Acts.Redo) (act_step (bare d) Acts.Redo)
along-redo d = by (s.index == length s.live)
  where
    s : Groups
    s = d.text.groups

    group : ℕ
    group = slice_index s.live s.index

    after : List ℕ → Groups
    after retired = groups_of s.live (s.index + 1) retired (without_number s.undone group) s.given

    by : (none : Bool) → GoAlong (history_step d (if none then None else Some group) (if none then s else after s.retired))
        (history_step (bare d) (if none then None else Some group) (if none then bare_groups s else after []))
    by true = along-viewing d NoCommand
    by false =
        let next = undone_document d (after s.retired) in
        along-revision d next (undone_document (bare d) (after [])) _ _ (bare-again next) refl

along-done : (d : Document) (act : EditAct) → GoAlong (done_step d act) (done_step (bare d) act)
along-done d Acts.Undo = along-undo d
along-done d Acts.Redo = along-redo d
along-done d act = along-command d act

along-act : (d : Document) (act : EditAct) → GoAlong (act_step d act) (act_step (bare d) act)
along-act d act = by (viewing_of act)
  where
    by : (found : Option Viewing) → GoAlong (looking_step d act found) (looking_step (bare d) act found)
    by None = along-done d act
    by (Some viewing) = along-viewing d viewing

-- ---- events of the front end, after which old groups are collected

pub bare-collected : (d : Document) → bare (collected_document d) ≡ bare d
bare-collected d = by (collection_after d.text)
  where
    by : (found : Option Collection) → bare (with_text d (with_collection d.text found)) ≡ bare d
    by None = refl
    by (Some collection) =
        ap (λ groups. with_text d (record (bare d).text { groups = groups })) (bare-forgotten collection.groups d.text.groups)

along-taken : (d : Document) (event : Event) → IsOfFront event → GoAlong (taken_step d event) (taken_step (bare d) event)
along-taken d (Front act) front = along-act d act
along-taken d (Edit caller edit named) front = absurd front
along-taken d (Spans caller rev start len spans) front = absurd front
along-taken d (Read caller rev start max) front = absurd front
along-taken d (Count caller) front = absurd front
along-taken d (Ack caller rev) front = absurd front
along-taken d (Ended caller) front = absurd front
along-taken d (Configure config) front = along-viewing d (Layout config)
along-taken d Saved front = along-step_to no_request d (saved_document d) (saved_document (bare d)) Null None None (bare-again (saved_document d))
along-taken d Other front = along-viewing d NoCommand

along-event : (d : Document) (event : Event) → IsOfFront event → GoAlong (event_step d event) (event_step (bare d) event)
along-event d event front =
    let along = along-taken d event front in
    record {
      tell = record { body = along.tell.body; update = along.tell.update; scroll = along.tell.scroll; notice = along.tell.notice };
      same = bare-collected (taken_step d event).document ∙ along.same ∙ sym (bare-collected (taken_step (bare d) event).document);
    }

-- ---- the floor is at most the head

abbrev HasFloor : Document → Type 0
HasFloor d = d.text.history.floor ≤ head d.text.history

floor-settled : (request : Run) (d next : Document) → HasFloor next → HasFloor (settled request d next)
floor-settled request d next has = has

floor-viewing : (d : Document) (viewing : Viewing) → HasFloor d → HasFloor (viewing_step d viewing).document
floor-viewing d viewing has = has

floor-command : (d : Document) (act : EditAct) → HasFloor d → HasFloor (command_step d act (effect_on d act)).document
floor-command d act has = by (is_idle d effect)
  where
    effect : Effect
    effect = effect_on d act

    joined : Option ℕ
    joined = run_group (run_on d.text.typing (kind_of act))

    by : (idle : Bool) → HasFloor (if idle then no_edit_step d act effect else typed_step d act effect).document
    by true = floor-settled no_request d (selected_document d (kind_of act) effect.regions) has
    by false =
        floor-settled no_request d (typed_in d act effect joined) (omega (arith, has, head-after d.text.history (front_edit d joined effect.replacements)))

floor-turned : (d : Document) (group : Option ℕ) (groups : Groups) → HasFloor d → HasFloor (history_step d group groups).document
floor-turned d None groups has = floor-viewing d NoCommand has
floor-turned d (Some group) groups has =
    floor-settled no_request d (undone_document d groups) (omega (arith, has, head-undid d.text.history groups.undone))

floor-done : (d : Document) (act : EditAct) → HasFloor d → HasFloor (done_step d act).document
floor-done d Acts.Undo has = floor-turned d (next_undo d.text.groups) (undone_one d.text.groups) has
floor-done d Acts.Redo has = floor-turned d (next_redo d.text.groups) (redone_one d.text.groups) has
floor-done d act has = floor-command d act has

floor-act : (d : Document) (act : EditAct) → HasFloor d → HasFloor (act_step d act).document
floor-act d act has = by (viewing_of act)
  where
    by : (found : Option Viewing) → HasFloor (looking_step d act found).document
    by None = floor-done d act has
    by (Some viewing) = floor-viewing d viewing has

floor-collected : (d : Document) → HasFloor d → HasFloor (collected_document d)
floor-collected d has = by (collection_after d.text) refl
  where
    by : (found : Option Collection) → collection_after d.text ≡ found → HasFloor (with_text d (with_collection d.text found))
    by None is = has
    by (Some collection) is =
        omega (
          arith,
          floor-found d.text.history d.text.groups.retired (least_acknowledged (head d.text.history) d.text.sessions) collection is,
          least-within (head d.text.history) d.text.sessions,
        )

floor-taken : (d : Document) (event : Event) → IsOfFront event → HasFloor d → HasFloor (taken_step d event).document
floor-taken d (Front act) front has = floor-act d act has
floor-taken d (Edit caller edit named) front has = absurd front
floor-taken d (Spans caller rev start len spans) front has = absurd front
floor-taken d (Read caller rev start max) front has = absurd front
floor-taken d (Count caller) front has = absurd front
floor-taken d (Ack caller rev) front has = absurd front
floor-taken d (Ended caller) front has = absurd front
floor-taken d (Configure config) front has = floor-viewing d (Layout config) has
floor-taken d Saved front has = floor-settled no_request d (saved_document d) has
floor-taken d Other front has = floor-viewing d NoCommand has

floor-event : (d : Document) (event : Event) → IsOfFront event → HasFloor d → HasFloor (after_event d event)
floor-event d event front has = floor-collected (taken_step d event).document (floor-taken d event front has)

-- ---- refusals: an edit against the head meets no floor

refusal-bare : (d : Document) (event : Event) → IsOfFront event → HasFloor d → refusal_at d event ≡ refusal_at (bare d) event
refusal-bare d (Edit caller edit named) front has = absurd front
refusal-bare d (Spans caller rev start len spans) front has = absurd front
refusal-bare d (Read caller rev start max) front has = absurd front
refusal-bare d (Count caller) front has = absurd front
refusal-bare d (Ack caller rev) front has = absurd front
refusal-bare d (Ended caller) front has = absurd front
refusal-bare d (Configure config) front has = refl
refusal-bare d Saved front has = refl
refusal-bare d Other front has = refl
refusal-bare d (Front act) front has = ap edit_refused (by (is_idle d effect))
  where
    effect : Effect
    effect = effect_on d act

    asked : AskedEdit
    asked = front_edit d None effect.replacements

    rest : Option Refusal
    rest = misfit_or_spent (misfit_of (text_at d.text.history asked.base) asked.delta) d.text.limit (inserted_count d.text.history + inserted_len asked.delta.els)

    refused : Bool → ℕ → Option Refusal
    refused below floor =
        if nat_lt (head d.text.history) (head d.text.history) then Some (unknown (head d.text.history)) else (if below then Some (collected floor) else rest)

    by : (idle : Bool) → (if idle then None else asked_refusal d.text asked) ≡ (if idle then None else asked_refusal (bare d).text asked)
    by true = refl
    by false =
        ap (λ below. refused below d.text.history.floor) (le-ltb (head d.text.history) d.text.history.floor has) ∙
        sym (ap (λ below. refused below 0) (le-ltb (head d.text.history) 0 (omega arith)))

-- ---- the laws

step-same : {X : Type 0} (f : EventStep → X) (one other : Document) (event : Event) → bare one ≡ bare other →
    f (event_step (bare one) event) ≡ f (event_step (bare other) event)
step-same f one other event same = ap (λ d. f (event_step d event)) same

pub collection_is_unseen : CollectionIsUnseen
collection_is_unseen one other event front alike =
    let first = along-event one event front in
    let second = along-event other event front in
    let same = alike.same in (
      refusal-bare one event front alike.one_floor ∙ ap (λ d. refusal_at d event) same ∙ sym (refusal-bare other event front alike.other_floor),
      record {
        body = first.tell.body ∙ step-same (λ (s : EventStep). s.body) one other event same ∙ sym second.tell.body;
        update = first.tell.update ∙ step-same (λ (s : EventStep). s.update) one other event same ∙ sym second.tell.update;
        scroll = first.tell.scroll ∙ step-same (λ (s : EventStep). s.scroll) one other event same ∙ sym second.tell.scroll;
        notice = first.tell.notice ∙ step-same (λ (s : EventStep). s.notice) one other event same ∙ sym second.tell.notice;
      },
      record {
        same = first.same ∙ step-same (λ (s : EventStep). bare s.document) one other event same ∙ sym second.same;
        one_floor = floor-event one event front alike.one_floor;
        other_floor = floor-event other event front alike.other_floor;
      },
    )

-- a session that changed
bare-set : (sessions : List (Option ℕ)) (index : ℕ) (session : Option ℕ) → bare_sessions sessions ≡ bare_sessions (slice_set sessions index session)
bare-set [] index session = refl
bare-set (first ∷ sessions) zero session = refl
bare-set (first ∷ sessions) (suc index) session = ap (λ rest. None ∷ rest) (bare-set sessions index session)

-- a document whose sessions alone differ, but not how many there are
told_by_sessions : (d : Document) (sessions : List (Option ℕ)) → HasFloor d → bare_sessions d.text.sessions ≡ bare_sessions sessions →
    AreAlike d (collected_document (with_text d (record d.text { sessions = sessions })))
told_by_sessions d sessions has same =
    let next = with_text d (record d.text { sessions = sessions }) in record {
      same = ap (λ rest. with_text d (record (bare d).text { sessions = rest })) same ∙ sym (bare-collected next);
      one_floor = has;
      other_floor = floor-collected next has;
    }

pub acknowledgements_are_unseen : AcknowledgementsAreUnseen
acknowledgements_are_unseen d (Front act) told has = absurd told
acknowledgements_are_unseen d (Edit caller edit named) told has = absurd told
acknowledgements_are_unseen d (Spans caller rev start len spans) told has = absurd told
acknowledgements_are_unseen d (Ack caller rev) told has = (
  record { body = refl; update = refl; scroll = refl; notice = refl },
  told_by_sessions d (acknowledged_text d.text caller rev).sessions has (bare-set d.text.sessions _ _),
)
acknowledgements_are_unseen d (Ended caller) told has = (
  record { body = refl; update = refl; scroll = refl; notice = refl },
  told_by_sessions d (ended_text d.text caller).sessions has (bare-set d.text.sessions _ _),
)
acknowledgements_are_unseen d (Read caller rev start max) told has = absurd told
acknowledgements_are_unseen d (Count caller) told has = absurd told
acknowledgements_are_unseen d (Configure config) told has = absurd told
acknowledgements_are_unseen d Saved told has = absurd told
acknowledgements_are_unseen d Other told has = absurd told
