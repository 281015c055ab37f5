-- The commands of the front end: those that only look, an undo, a redo, and all others.
use Rattle.std.proofs.Common.{◌≡◌, ℕ, ◌+◌, Bool, true, false, [], length, Option, Some, None, refl, ap, sym, subst, ◌∙◌}
use Rattle.std.specs.Prelude.{if◌then◌else◌, unwrap_or}
use Rattle.std.proofs.lemmas.List.{length_push}
use Rattle.plain_text.specs.declared.run.Run.{Run}
use Rattle.plain_edits.specs.History.{head}
use Rattle.plain_edits.specs.Edits.{Refusal}
use Rattle.xi_plain.specs.declared.command.EditAct.{EditAct}
use Rattle.xi_plain.specs.declared.command.EditAct.TheVariants as Acts
use Rattle.undo_groups.specs.Groups.{Groups, next_undo, undone_one, next_redo, redone_one}
use Rattle.edit_ops.specs.Commands.{Effect, IsDoneOnText, selecting}
use Rattle.doc_view.specs.View.{View}
use Rattle.doc_view.proofs.ForCallers.{do_nothing-none}
use Rattle.doc_session.specs.declared.event.Body.{Body}
use Rattle.doc_session.specs.declared.event.Body.TheVariants.{Null}
use Rattle.doc_view.specs.declared.looking.Viewing.{Viewing}
use Rattle.doc_view.specs.declared.looking.Viewing.TheVariants as Views
use Rattle.doc_text.specs.Asking.{asked_refusal}
use Rattle.doc_session.specs.Asking.{front_edit}
use Rattle.doc_session.specs.Document.{Document, no_request}
use Rattle.edit_groups.specs.Typing.{kind_of}
use Rattle.doc_text.specs.Notices.{notice_to}
use Rattle.doc_session.specs.Effects.{scroll_after}
use Rattle.doc_session.specs.Layout.{Position}
use Rattle.doc_view.specs.Looking.{scrolls, scrolls_at, viewed, viewed_lines, viewing_of, viewing_ticks}
use Rattle.doc_session.specs.Step.{EventStep, act_step, answer_to, command_refusal, command_step, done_step, effect_on, history_step, no_edit_step, is_idle, looking_step, request_of, revision_step, scroll_if, selected_document, step_to, typed_document, typed_step, undone_document, viewed_document, viewing_step}
use Rattle.doc_session.proofs.UntoldLemmas.{shown-viewed}

-- a command that edits text or regions: it is done on these alone, its step is that of its effect, and it requests no lines
pub record IsCommand (act : EditAct) : Type 0 where
  pub done : IsDoneOnText act
  pub looks_not : viewing_of act ≡ None
  pub step : (plain : Document) → done_step plain act ≡ command_step plain act (effect_on plain act)
  pub request : request_of act ≡ no_request

-- a command that only looks: it requests what it says, leaves the configuration, edits nothing, and takes no step
record IsLook (act : EditAct) (viewing : Viewing) : Type 0 where
  is : viewing_of act ≡ Some viewing
  request : request_of act ≡ viewed_lines viewing
  config : (view : View) → (viewed view viewing).config ≡ view.config
  effect : (plain : Document) → effect_on plain act ≡ selecting plain.view.regions
  ticks : (view : View) → viewing_ticks view viewing ≡ 0

data Form (act : EditAct) : Type 0 where
  undoes : act ≡ Acts.Undo → Form act
  redoes : act ≡ Acts.Redo → Form act
  looks : (viewing : Viewing) → IsLook act viewing → Form act
  commands : IsCommand act → Form act

form_of : (act : EditAct) → Form act
form_of (Acts.Insert chars) = commands (record { done = tt; looks_not = refl; step = λ plain. refl; request = refl })
form_of (Acts.Paste chars) = commands (record { done = tt; looks_not = refl; step = λ plain. refl; request = refl })
form_of Acts.InsertNewline = commands (record { done = tt; looks_not = refl; step = λ plain. refl; request = refl })
form_of Acts.InsertTab = commands (record { done = tt; looks_not = refl; step = λ plain. refl; request = refl })
form_of Acts.DeleteBackward = commands (record { done = tt; looks_not = refl; step = λ plain. refl; request = refl })
form_of Acts.DeleteForward = commands (record { done = tt; looks_not = refl; step = λ plain. refl; request = refl })
form_of Acts.DeleteWordBackward = commands (record { done = tt; looks_not = refl; step = λ plain. refl; request = refl })
form_of Acts.DeleteWordForward = commands (record { done = tt; looks_not = refl; step = λ plain. refl; request = refl })
form_of Acts.Cut = commands (record { done = tt; looks_not = refl; step = λ plain. refl; request = refl })
form_of Acts.Copy = commands (record { done = tt; looks_not = refl; step = λ plain. refl; request = refl })
form_of Acts.Undo = undoes refl
form_of Acts.Redo = redoes refl
form_of Acts.SelectAll = commands (record { done = tt; looks_not = refl; step = λ plain. refl; request = refl })
form_of Acts.Collapse = commands (record { done = tt; looks_not = refl; step = λ plain. refl; request = refl })
form_of (Acts.Move motion extend) = commands (record { done = tt; looks_not = refl; step = λ plain. refl; request = refl })
form_of (Acts.Scroll first last) = looks (Views.Window (record { start = first; end = last })) (record { is = refl; request = refl; config = λ view. refl; effect = λ plain. refl; ticks = λ view. refl })
form_of (Acts.RequestLines first last) = looks (Views.Lines (record { start = first; end = last })) (record { is = refl; request = refl; config = λ view. refl; effect = λ plain. refl; ticks = λ view. refl })
form_of (Acts.Click line col modifiers count) = commands (record { done = tt; looks_not = refl; step = λ plain. refl; request = refl })
form_of (Acts.Drag line col modifiers) = commands (record { done = tt; looks_not = refl; step = λ plain. refl; request = refl })
form_of (Acts.Gesture line col ty) = commands (record { done = tt; looks_not = refl; step = λ plain. refl; request = refl })
form_of (Acts.GotoLine line) = commands (record { done = tt; looks_not = refl; step = λ plain. refl; request = refl })
form_of (Acts.Find chars case_sensitive regex whole_words) = looks (Views.Seek chars case_sensitive) (record { is = refl; request = refl; config = λ view. refl; effect = λ plain. refl; ticks = λ view. refl })
form_of (Acts.FindNext wrap_around allow_same) = looks (Views.Next wrap_around) (record { is = refl; request = refl; config = λ view. refl; effect = λ plain. refl; ticks = λ view. refl })
form_of (Acts.FindPrevious wrap_around allow_same) = looks (Views.Previous wrap_around) (record { is = refl; request = refl; config = λ view. refl; effect = λ plain. refl; ticks = λ view. refl })
form_of Acts.Nothing = commands (record { done = tt; looks_not = refl; step = λ plain. refl; request = refl })

-- what does more than look, and is no undo and no redo, edits text or regions
pub IsCommand-else : (act : EditAct) → (act ≡ Acts.Undo → ⊥) → (act ≡ Acts.Redo → ⊥) → viewing_of act ≡ None → IsCommand act
IsCommand-else act no_undo no_redo none = by (form_of act)
  where
    by : Form act → IsCommand act
    by (undoes is) = absurd (no_undo is)
    by (redoes is) = absurd (no_redo is)
    by (looks viewing look) = absurd (let clash = sym none ∙ look.is in cc)
    by (commands is) = is

-- ---- what is never refused

-- where nothing is edited nothing is refused
pub refusal-selecting : (plain : Document) → command_refusal plain (selecting plain.view.regions) ≡ None
refusal-selecting plain =
    ap (λ b. if b then None else asked_refusal plain.text (front_edit plain None [])) (do_nothing-none (length plain.view.text))

-- so it is where a command only looks
pub refusal-looking : (plain : Document) (act : EditAct) (viewing : Viewing) → viewing_of act ≡ Some viewing → command_refusal plain (effect_on plain act) ≡ None
refusal-looking plain act viewing given = by (form_of act)
  where
    by : Form act → command_refusal plain (effect_on plain act) ≡ None
    by (undoes is) = absurd (let clash = sym (ap viewing_of is) ∙ given in cc)
    by (redoes is) = absurd (let clash = sym (ap viewing_of is) ∙ given in cc)
    by (looks own look) = ap (command_refusal plain) (look.effect plain) ∙ refusal-selecting plain
    by (commands is) = absurd (let clash = sym is.looks_not ∙ given in cc)

-- a command that only looks takes no step
pub ticks-looking : (view : View) (act : EditAct) (viewing : Viewing) → viewing_of act ≡ Some viewing → viewing_ticks view viewing ≡ 0
ticks-looking view act viewing given = by (form_of act)
  where
    by : Form act → viewing_ticks view viewing ≡ 0
    by (undoes is) = absurd (let clash = sym (ap viewing_of is) ∙ given in cc)
    by (redoes is) = absurd (let clash = sym (ap viewing_of is) ∙ given in cc)
    by (looks own look) = subst (λ found. viewing_ticks view (unwrap_or found own) ≡ 0) (sym look.is ∙ given) (look.ticks view)
    by (commands is) = absurd (let clash = sym is.looks_not ∙ given in cc)

-- an edit that is refused requests no lines
pub request_of-refused : (plain : Document) (act : EditAct) (refusal : Refusal) → command_refusal plain (effect_on plain act) ≡ Some refusal →
    request_of act ≡ no_request
request_of-refused plain act refusal refused = by (form_of act)
  where
    by : Form act → request_of act ≡ no_request
    by (undoes is) = ap request_of is
    by (redoes is) = ap request_of is
    by (looks viewing look) =
        absurd (let taken = sym (refusal-selecting plain) ∙ sym (ap (command_refusal plain) (look.effect plain)) ∙ refused in cc)
    by (commands is) = is.request

-- ---- the two forms of a step

-- what a step leaves until the front end is told: the saved revision, how the text is laid out and edited, what the front end was told, and
-- its screen
pub record Leaves (before next : Document) : Type 0 where
  pub saved : next.text.saved ≡ before.text.saved
  pub config : next.view.config ≡ before.view.config
  pub shown : next.view.shown ≡ before.view.shown
  pub screen : next.screen ≡ before.screen

-- it makes no revision, or one, and leaves that
module _ (P : EventStep → Type 0) (plain : Document) (act : EditAct)
    (still : (next : Document) (body : Body) (scroll : Option Position) → next.text.history ≡ plain.text.history → Leaves plain next →
    P (step_to (request_of act) plain next body scroll None))
    (made : (next : Document) (body : Body) (scroll : Option Position) → head next.text.history ≡ head plain.text.history + 1 → Leaves plain next →
    P (step_to (request_of act) plain next body scroll (notice_to plain.text next.text.history 0))) where
  still_asking : (request : Run) → request_of act ≡ request → (next : Document) (body : Body) (scroll : Option Position) →
      next.text.history ≡ plain.text.history → Leaves plain next → P (step_to request plain next body scroll None)
  still_asking request is next body scroll history leaves =
      subst (λ r. P (step_to r plain next body scroll None)) is (still next body scroll history leaves)

  made_asking : request_of act ≡ no_request → (next : Document) (body : Body) (scroll : Option Position) →
      head next.text.history ≡ head plain.text.history + 1 → Leaves plain next → P (revision_step plain next 0 body scroll)
  made_asking is next body scroll more leaves =
      subst (λ r. P (step_to r plain next body scroll (notice_to plain.text next.text.history 0))) is (made next body scroll more leaves)

  command_forms : (effect : Effect) → request_of act ≡ no_request → P (command_step plain act effect)
  command_forms effect is = by (is_idle plain effect)
    where
      by : (idle : Bool) → P (if idle then no_edit_step plain act effect else typed_step plain act effect)
      by true =
          let next = selected_document plain (kind_of act) effect.regions in
          still_asking no_request is next (answer_to plain act) (scroll_if (scrolls act) plain next) refl
          (record { saved = refl; config = refl; shown = refl; screen = refl })
      by false =
          let next = typed_document plain (kind_of act) effect in
          made_asking is next (answer_to plain act) (scroll_if (scrolls act) plain next) (length_push plain.text.history.revisions _)
          (record { saved = refl; config = refl; shown = refl; screen = refl })

  viewing_forms : (viewing : Viewing) → request_of act ≡ viewed_lines viewing → (viewed plain.view viewing).config ≡ plain.view.config →
      P (viewing_step plain viewing)
  viewing_forms viewing is config =
      let next = viewed_document plain viewing in
      still_asking (viewed_lines viewing) is next Null (scroll_if (scrolls_at viewing) plain next) refl
      (record { saved = refl; config = config; shown = shown-viewed plain.view viewing; screen = refl })

  turn_forms : (group : Option ℕ) (groups : Groups) → request_of act ≡ no_request → P (history_step plain group groups)
  turn_forms None groups is = viewing_forms Views.Other is refl
  turn_forms (Some group) groups is =
      let next = undone_document plain groups in
      made_asking is next Null (scroll_after plain next) (length_push plain.text.history.revisions _)
      (record { saved = refl; config = refl; shown = refl; screen = refl })

  abbrev At : EditAct → Type 0
  At a = P (act_step plain a)

  -- what holds where no revision is made, and where one is, holds of the act's step
  pub by_front : P (act_step plain act)
  by_front = by (form_of act)
    where
      by : Form act → P (act_step plain act)
      by (undoes is) = subst At (sym is) (turn_forms (next_undo plain.text.groups) (undone_one plain.text.groups) (ap request_of is))
      by (redoes is) = subst At (sym is) (turn_forms (next_redo plain.text.groups) (redone_one plain.text.groups) (ap request_of is))
      by (looks viewing look) =
          subst (λ found. P (looking_step plain act found)) (sym look.is) (viewing_forms viewing look.request (look.config plain.view))
      by (commands is) =
          subst (λ found. P (looking_step plain act found)) (sym is.looks_not)
          (subst P (sym (is.step plain)) (command_forms (effect_on plain act) is.request))
