use Rattle.std.proofs.Common.{◌≤◌, length, refl, ap, sym, ◌∙◌, subst, arith}
use Rattle.std.specs.Arc.{arc_value}
use Rattle.plain_edits.specs.History.{History, inserted_count}
use Rattle.rev_engine.specs.Engine.{StandsFor}
use Rattle.plain_edits.specs.HistorySteps.{edits}
use Rattle.rev_engine.specs.Given.{MayAsk, after, meant}
use Rattle.rev_engine.specs.State.{State}
use Rattle.doc_text.specs.InMemory.{head_shown}
use Rattle.doc_text.proofs.MoveLemmas.{IsAfter-shared, IsChangeOf-said, head-after, IsStepFrom-shared, spent-within}
use Rattle.doc_text.proofs.engine_step.step_at_head.Goals as goal

pub edit_head-requires-clause-may : goal.edit_head-requires-clause-may
edit_head-requires-clause-may c =
    subst (λ (h : History). MayAsk h c.args.edit.group) (sym (ap (λ (e : State). e.revisions) (c.in_ok-next.ensures ∙ c.deref.ensures))) c.requires.may

pub edit_head-requires-clause-base : goal.edit_head-requires-clause-base
edit_head-requires-clause-base c = c.requires.base ∙ ap (λ (e : State). length (head_shown e)) (sym (c.in_ok-next.ensures ∙ c.deref.ensures))

pub returns-clause-taken : goal.returns-clause-taken
returns-clause-taken c = λ history asked stands said.
    let was = subst (λ (e : State). StandsFor e history) (sym (c.in_ok-next.ensures ∙ c.deref.ensures)) stands in
    let within : inserted_count (after history asked) ≤ c.edit_head.new.self.limit =
    omega (arith, spent-within history c.in_ok-next.next.limit asked (c.in_ok-change.ensures.accepted history asked was said), c.in_ok-change.ensures.limit) in
    IsAfter-shared history (arc_value c.args.engine.now) (edits (meant history asked)) c.edit_head.new.self c.in_ok-change.change c.in_ok-shared_step.field-0 stands
    (head-after history asked) refl (c.in_ok-change.ensures.stands history asked was said) within (c.in_ok-change.ensures.change history asked was said)
    c.in_ok-shared_step.ensures.shared

pub returns-clause-made : goal.returns-clause-made
returns-clause-made c =
    let changes =
    IsChangeOf-said (arc_value c.args.engine.now) c.in_ok-next.next c.edit_head.new.self c.args.edit c.in_ok-change.change (c.in_ok-next.ensures ∙ c.deref.ensures) c.requires.some
    c.in_ok-change.ensures.stands c.in_ok-change.ensures.change in
    IsStepFrom-shared (arc_value c.args.engine.now) c.edit_head.new.self c.in_ok-change.change c.in_ok-shared_step.field-0
    c.in_ok-shared_step.ensures.shared changes c.in_ok-shared_step.ensures.counted (c.in_ok-change.ensures.limit ∙ ap (λ (e : State). e.limit) (c.in_ok-next.ensures ∙ c.deref.ensures))
