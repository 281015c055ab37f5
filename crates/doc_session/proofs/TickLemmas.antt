-- How many steps events take.
use Rattle.std.proofs.Common.{◌≡◌, ℕ, ◌+◌, ◌-◌, ◌≤◌, true, false, length, Option, Some, None, refl, ap, ap₂, sym, ◌∙◌, subst, arith}
use Rattle.std.specs.Str.{bytes_eq}
use Rattle.std.proofs.lemmas.Slice.Eq.{bytes_eq-Decides}
use Rattle.plain_edits.specs.Change.{shown_indices}
use Rattle.plain_edits.specs.History.{History, head}
use Rattle.plain_edits.specs.declared.delta.UnitDelta.{UnitDelta}
use Rattle.xi_plain.specs.declared.command.EditAct.{EditAct}
use Rattle.delta_core.specs.Elements.{delta_of}
use Rattle.line_index.specs.Index.{touched_lines}
use Rattle.edit_ops.specs.Commands.{Effect}
use Rattle.edit_ops.specs.Replacements.{IsEditOf}
use Rattle.edit_groups.specs.declared.typing.Kind.{Kind}
use Rattle.edit_groups.specs.Typing.{kind_of}
use Rattle.undo_groups.specs.Groups.{Groups}
use Rattle.doc_text.specs.declared.revised.Revised.{Revised}
use Rattle.doc_text.specs.Revised.{IsRevised, IsTurnOf}
use Rattle.doc_text.specs.Revisions.{typed_text}
use Rattle.doc_text.specs.Writing.{Writing, head_text}
use Rattle.doc_view.specs.View.{View}
use Rattle.doc_view.specs.Looking.{viewing_ticks}
use Rattle.doc_session.specs.declared.event.Event.{Event}
use Rattle.doc_view.specs.declared.looking.Viewing.{Viewing}
use Rattle.doc_session.specs.Asking.{replacing_delta}
use Rattle.doc_session.specs.Document.{Document}
use Rattle.doc_session.specs.InMemory.{Doc}
use Rattle.doc_session.specs.Stands.{DocStandsFor}
use Rattle.doc_session.specs.Step.{EventStep, effect_in, effect_on, history_step}
use Rattle.doc_session.specs.Ticks.{revision_ticks, step_ticks, ticks_at}
use Rattle.doc_session.specs.Touched.{AreTouched, touched_between}
use Rattle.doc_session.proofs.FrontLemmas.{delta-same}
use Rattle.doc_session.proofs.StepLemmas.{effect-is}
use Rattle.doc_session.proofs.TouchedLemmas.{AreTouched-change}

-- ---- the lines of a revision

ticks-some : (lines touched : ℕ) → lines ≡ touched → lines ≤ touched + 2
ticks-some lines touched is = omega (arith, is)

ticks-one : (lines touched : ℕ) → lines ≡ 1 → lines ≤ touched + 2
ticks-one lines touched is = omega (arith, is)

ticks-touched : (lines : ℕ) (history : History) (from to : ℕ) → AreTouched lines history from to →
    lines ≤ (touched_between history from to).end - (touched_between history from to).start + 2
ticks-touched lines history from to are =
    let before = shown_indices history from in
    let after = shown_indices history to in
    let touched = (touched_between history from to).end - (touched_between history from to).start in
    elim (bytes_eq before after) as (λ b. bytes_eq before after ≡ b → lines ≤ touched + 2) [
      | true ↦ λ yes. ticks-one lines touched (are.none ((bytes_eq-Decides before after).0 yes))
      | false ↦ λ no. ticks-some lines touched (are.some (λ same. let clash = sym no ∙ (bytes_eq-Decides before after).1 same in cc))
    ] refl

-- A REVISION touches no more lines than its ticks
ticks-revised : (before next : Writing) (author : ℕ) (made : Revised) → IsRevised before next author made →
    touched_lines made.units (head_text before) ≤ revision_ticks before next
ticks-revised before next author made is =
    ticks-touched (touched_lines made.units (head_text before)) next.history (head before.history) (head next.history)
    (AreTouched-change before.history next.history made.units is.text_before is.changes)

within : (from to few many : ℕ) → few ≤ many → to ≤ from + few → to ≤ from + many
within from to few many less counted = omega (arith, less, counted)

pub ticks-within : (from to : ℕ) (doc : Doc) (plain : Document) (next : Writing) (author : ℕ) (made : Revised) → DocStandsFor doc plain →
    IsRevised plain.text next author made → to ≤ from + touched_lines made.units doc.view.text → to ≤ from + revision_ticks plain.text next
ticks-within from to doc plain next author made stands is counted =
    let text_is = ap (λ (v : View). v.text) stands.view ∙ stands.of_head in
    within from to (touched_lines made.units (head_text plain.text)) (revision_ticks plain.text next)
    (ticks-revised plain.text next author made is) (subst (λ t. to ≤ from + touched_lines made.units t) text_is counted)

-- a command that was typed is a revision
pub IsRevised-typed : (doc : Doc) (plain : Document) (act : EditAct) (units : UnitDelta) (kind : Option Kind) (revised : Revised) →
    DocStandsFor doc plain → IsEditOf (length doc.view.text) (effect_in doc.view act).replacements units → kind ≡ kind_of act →
    IsRevised plain.text (typed_text plain.text kind (delta_of (head_text plain.text) units)) 0 revised →
    IsRevised plain.text (typed_text plain.text (kind_of act) (replacing_delta (effect_on plain act).replacements (head_text plain.text))) 0 revised
IsRevised-typed doc plain act units kind revised stands edits kind_is is =
    let effect = effect_on plain act in
    let over : IsEditOf (length (head_text plain.text)) effect.replacements units =
    subst (λ t. IsEditOf (length t) effect.replacements units) (ap (λ (v : View). v.text) stands.view ∙ stands.of_head)
    (subst (λ (e : Effect). IsEditOf (length doc.view.text) e.replacements units) (effect-is doc plain act stands) edits) in
    subst (λ (text : Writing). IsRevised plain.text text 0 revised)
    (ap₂ (typed_text plain.text) kind_is (delta-same (head_text plain.text) effect.replacements units over)) is

-- ---- what is counted so is counted so of what is the same

pub ticks-none : (from to many : ℕ) → to ≤ from + 0 → to ≤ from + many
ticks-none from to many counted = omega (arith, counted)

pub ticks-few : (from to few many : ℕ) → few ≡ 0 → to ≤ from + few → to ≤ from + many
ticks-few from to few many none counted = omega (arith, none, counted)

pub ticks-step : (from to : ℕ) (plain : Document) (step other : EventStep) → step ≡ other → to ≤ from + step_ticks plain other →
    to ≤ from + step_ticks plain step
ticks-step from to plain step other is counted = subst (λ (s : EventStep). to ≤ from + step_ticks plain s) (sym is) counted

pub ticks-event : (from to : ℕ) (plain : Document) (event named : Event) → event ≡ named → to ≤ from + ticks_at plain named →
    to ≤ from + ticks_at plain event
ticks-event from to plain event named is counted = subst (λ (e : Event). to ≤ from + ticks_at plain e) (sym is) counted

pub ticks-view : (from to : ℕ) (view other : View) (viewing : Viewing) → view ≡ other → to ≤ from + viewing_ticks view viewing →
    to ≤ from + viewing_ticks other viewing
ticks-view from to view other viewing is counted = subst (λ (v : View). to ≤ from + viewing_ticks v viewing) is counted

-- ---- an undo or a redo

pub ticks-turned : (from to : ℕ) (plain : Document) (groups : Groups) (revised : Revised) →
    ((group : ℕ) → IsTurnOf plain.text (Some group) groups (Some revised) → to ≤ from + step_ticks plain (history_step plain (Some group) groups)) →
    (group : Option ℕ) → IsTurnOf plain.text group groups (Some revised) → to ≤ from + step_ticks plain (history_step plain group groups)
ticks-turned from to plain groups revised each None is = absurd is
ticks-turned from to plain groups revised each (Some group) is = each group is
