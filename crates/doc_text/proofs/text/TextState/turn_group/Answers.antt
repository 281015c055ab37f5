use Rattle.std.proofs.Common.{◌∷◌, [], ◌++◌, List, ℕ, None, ap, sym, subst, arith}
use Rattle.std.specs.Arc.{arc_value}
use Rattle.plain_edits.specs.Edits.{undid}
use Rattle.plain_edits.specs.History.{head, undo}
use Rattle.plain_edits.specs.HistorySteps.{undoes}
use Rattle.rev_list.specs.Edit.{undone_by}
use Rattle.undo_groups.specs.Groups.{Groups}
use Rattle.doc_text.specs.Agree.{Agree}
use Rattle.doc_text.specs.InMemory.{TextState}
use Rattle.doc_text.specs.Inner.{IsAfter, IsStepFrom, IsTurned}
use Rattle.doc_text.specs.Stands.{TextStandsFor}
use Rattle.doc_text.proofs.AgreeLemmas.{Agree-turned}
use Rattle.doc_text.proofs.GroupLemmas.{MayAskUndo-whole, agrees-whole, undone_by-turned}
use Rattle.doc_text.proofs.HeadLemmas.{some-whole}
use Rattle.doc_text.proofs.MoveLemmas.{ends-within, whole-after}
use Rattle.doc_text.proofs.text.TextState.turn_group.Goals as goal

pub step_by_turn-requires-clause-may : goal.step_by_turn-requires-clause-may
step_by_turn-requires-clause-may c =
    let text = c.self.inside in
    let next = c.args.groups in
    let turn = subst (λ (t : TextState). IsTurned t.groups next.stack next.group) (sym c.self.view_is) c.requires.turned in
    MayAskUndo-whole (arc_value text.engine) text.stack text.typing c.self.invariant next.stack next.group turn
    (omega (arith, ap (λ (t : TextState). head t.engine.revisions) c.self.view_is, c.requires.has_number))

pub step_by_turn-requires-clause-agrees : goal.step_by_turn-requires-clause-agrees
step_by_turn-requires-clause-agrees c =
    let text = c.self.inside in
    let next = c.args.groups in
    let turn = subst (λ (t : TextState). IsTurned t.groups next.stack next.group) (sym c.self.view_is) c.requires.turned in
    agrees-whole (arc_value text.engine) text.stack text.typing c.self.invariant next.stack next.group turn

pub step_by_turn-requires-clause-some : goal.step_by_turn-requires-clause-some
step_by_turn-requires-clause-some c =
    let text = c.self.inside in
    some-whole (arc_value text.engine) text.stack text.typing c.self.invariant

pub revised-requires-clause-made : goal.revised-requires-clause-made
revised-requires-clause-made c = subst (λ (t : TextState). IsStepFrom t.engine c.in_ok-step.step) c.self.view_is c.in_ok-step.ensures.made

pub revised-requires-clause-within : goal.revised-requires-clause-within
revised-requires-clause-within c =
    let text = c.self.inside in
    ends-within (arc_value text.engine) text.stack text.typing (λ h. undoes (undone_by h (c.args.groups.group ∷ []))) c.in_ok-step.step c.self.invariant
    (λ h state. c.in_ok-step.ensures.taken h state.stands state.within)

pub revised-requires-clause-whole : goal.revised-requires-clause-whole
revised-requires-clause-whole c =
    let text = c.self.inside in
    let stack = c.args.groups.stack in
    let group = c.args.groups.group in
    let turn = subst (λ (t : TextState). IsTurned t.groups stack group) (sym c.self.view_is) c.requires.turned in
    whole-after (arc_value text.engine) text.stack text.typing (λ h. undoes (undone_by h (group ∷ []))) c.in_ok-step.step c.self.invariant
    (λ h state. c.in_ok-step.ensures.taken h state.stands state.within) stack None c.in_ok-step.ensures.made.limit
    (λ h agree.
    let At : List ℕ → Type 0 = λ set. Agree (h.revisions ++ undo set ∷ []) h.collected stack None in
    subst At (sym (undone_by-turned h text.stack stack text.typing group agree turn))
    (Agree-turned h.revisions h.collected text.stack text.typing agree stack group turn))

pub returns-clause-revised : goal.returns-clause-revised
returns-clause-revised c = λ plain stands.
    let stack = c.args.groups.stack in
    let group = c.args.groups.group in
    let was = subst (λ (t : TextState). TextStandsFor t plain) (sym c.self.view_is) stands in
    let turn : IsTurned plain.groups stack group = subst (λ (g : Groups). IsTurned g stack group) stands.parts.groups c.requires.turned in
    let history = undid plain.history stack.undone in
    let is : IsAfter plain.history history c.in_ok-step.step =
    subst (λ set. IsAfter plain.history (undid plain.history set) c.in_ok-step.step)
    (undone_by-turned plain.history plain.groups stack plain.typing group stands.parts.agree turn)
    (c.in_ok-step.ensures.taken plain.history was.parts.state.stands was.parts.state.within) in
    let agree = Agree-turned plain.history.revisions plain.history.collected plain.groups plain.typing stands.parts.agree stack group turn in
    c.revised.ensures.revised plain history stands is agree
