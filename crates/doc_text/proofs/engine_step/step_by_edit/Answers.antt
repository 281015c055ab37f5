use Rattle.std.proofs.Common.{◌≡◌, ◌≤◌, None, refl, ap, sym, ◌∙◌, subst, arith}
use Rattle.std.specs.Arc.{arc_value}
use Rattle.plain_edits.specs.Edits.{edit_refusal}
use Rattle.plain_edits.specs.History.{History, inserted_count}
use Rattle.rev_engine.specs.Engine.{StandsFor, asked_by}
use Rattle.plain_edits.specs.HistorySteps.{edits}
use Rattle.rev_engine.specs.Given.{MayAsk, after, meant}
use Rattle.rev_engine.specs.State.{State}
use Rattle.doc_text.proofs.MoveLemmas.{IsAfter-shared, IsChangeOf-shown, head-after, IsStepFrom-shared, spent-within}
use Rattle.doc_text.proofs.engine_step.step_by_edit.Goals as goal

pub edit-requires : goal.edit-requires
edit-requires c =
    subst (λ (h : History). MayAsk h c.args.edit.now.group) (sym (ap (λ (e : State). e.revisions) (c.in_ok-next.ensures ∙ c.deref.ensures))) c.requires.may

pub returns-clause-taken : goal.returns-clause-taken
returns-clause-taken c = λ history stands.
    let asked = asked_by c.args.edit.now in
    let was = subst (λ (e : State). StandsFor e history) (sym (c.in_ok-next.ensures ∙ c.deref.ensures)) stands in
    let within : inserted_count (after history asked) ≤ c.edit.new.self.limit =
    omega (arith, spent-within history c.in_ok-next.next.limit asked (c.in_ok-change.ensures.accepted history was), c.in_ok-change.ensures.limit) in
    IsAfter-shared history (arc_value c.args.engine.now) (edits (meant history asked)) c.edit.new.self c.in_ok-change.change c.in_ok-shared_step.field-0 stands
    (head-after history asked) refl (c.in_ok-change.ensures.stands history was) within (c.in_ok-change.ensures.change history was)
    c.in_ok-shared_step.ensures.shared

pub returns-clause-made : goal.returns-clause-made
returns-clause-made c =
    let changes =
    IsChangeOf-shown (arc_value c.args.engine.now) c.in_ok-next.next c.edit.new.self (λ h. after h (asked_by c.args.edit.now)) c.in_ok-change.change (c.in_ok-next.ensures ∙ c.deref.ensures) c.requires.some
    c.in_ok-change.ensures.stands c.in_ok-change.ensures.change in
    IsStepFrom-shared (arc_value c.args.engine.now) c.edit.new.self c.in_ok-change.change c.in_ok-shared_step.field-0
    c.in_ok-shared_step.ensures.shared changes c.in_ok-shared_step.ensures.counted (c.in_ok-change.ensures.limit ∙ ap (λ (e : State). e.limit) (c.in_ok-next.ensures ∙ c.deref.ensures))

pub returns-clause-accepted : goal.returns-clause-accepted
returns-clause-accepted c = λ history stands.
    let was = subst (λ (e : State). StandsFor e history) (sym (c.in_ok-next.ensures ∙ c.deref.ensures)) stands in
    subst (λ (e : State). edit_refusal history e.limit c.args.edit.now.rev c.args.edit.now.delta ≡ None) (c.in_ok-next.ensures ∙ c.deref.ensures)
    (c.in_ok-change.ensures.accepted history was)
