use Rattle.std.proofs.Common.{◌≤◌, [], ◌∷◌, refl, ap, sym, ◌∙◌, subst, arith}
use Rattle.std.specs.Arc.{arc_value}
use Rattle.plain_edits.specs.Edits.{undid}
use Rattle.plain_edits.specs.History.{History, inserted_count}
use Rattle.plain_edits.specs.HistorySteps.{undoes}
use Rattle.rev_list.specs.Edit.{undone_by}
use Rattle.rev_undo.specs.Under.{AgreesOnCollected}
use Rattle.rev_engine.specs.Asked.{MayAskUndo}
use Rattle.rev_engine.specs.Engine.{StandsFor}
use Rattle.rev_engine.specs.State.{State}
use Rattle.doc_text.proofs.MoveLemmas.{IsAfter-shared, IsChangeOf-shown, IsStepFrom-shared, head-undid}
use Rattle.doc_text.proofs.engine_step.step_by_turn.Goals as goal

pub turn_group-requires-clause-may : goal.turn_group-requires-clause-may
turn_group-requires-clause-may c =
    subst (λ (h : History). MayAskUndo h (undone_by h (c.args.group ∷ []))) (sym (ap (λ (e : State). e.revisions) (c.in_ok-next.ensures ∙ c.deref.ensures))) c.requires.may

pub turn_group-requires-clause-agrees : goal.turn_group-requires-clause-agrees
turn_group-requires-clause-agrees c =
    subst (λ (h : History). AgreesOnCollected h (undone_by h (c.args.group ∷ []))) (sym (ap (λ (e : State). e.revisions) (c.in_ok-next.ensures ∙ c.deref.ensures))) c.requires.agrees

pub returns-clause-taken : goal.returns-clause-taken
returns-clause-taken c = λ history stands few.
    let groups = undone_by history (c.args.group ∷ []) in
    let was = subst (λ (e : State). StandsFor e history) (sym (c.in_ok-next.ensures ∙ c.deref.ensures)) stands in
    let within : inserted_count history ≤ c.turn_group.new.engine.limit =
    omega (arith, few, c.in_ok-change.ensures.limit, ap (λ (e : State). e.limit) (c.in_ok-next.ensures ∙ c.deref.ensures)) in
    IsAfter-shared history (arc_value c.args.engine.now) (undoes groups) c.turn_group.new.engine c.in_ok-change.change c.in_ok-shared_step.field-0 stands
    (head-undid history groups) refl (c.in_ok-change.ensures.stands history was) within (c.in_ok-change.ensures.change history was)
    c.in_ok-shared_step.ensures.shared

pub returns-clause-made : goal.returns-clause-made
returns-clause-made c =
    let changes =
    IsChangeOf-shown (arc_value c.args.engine.now) c.in_ok-next.next c.turn_group.new.engine (λ h. undid h (undone_by h (c.args.group ∷ []))) c.in_ok-change.change (c.in_ok-next.ensures ∙ c.deref.ensures)
    c.requires.some c.in_ok-change.ensures.stands c.in_ok-change.ensures.change in
    IsStepFrom-shared (arc_value c.args.engine.now) c.turn_group.new.engine c.in_ok-change.change c.in_ok-shared_step.field-0
    c.in_ok-shared_step.ensures.shared changes c.in_ok-shared_step.ensures.counted (c.in_ok-change.ensures.limit ∙ ap (λ (e : State). e.limit) (c.in_ok-next.ensures ∙ c.deref.ensures))
