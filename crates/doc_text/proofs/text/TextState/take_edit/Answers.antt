use Rattle.std.proofs.Common.{◌≡◌, ◌≤◌, false, None, refl, ap, sym, ◌∙◌, subst, arith}
use Rattle.std.specs.Prelude.{IfErr}
use Rattle.std.proofs.lemmas.Result.{err_from_is_err_and}
use Rattle.std.specs.Arc.{arc_value}
use Rattle.plain_text.specs.Numbers.{has}
use Rattle.plain_edits.specs.Edits.{edit_refusal}
use Rattle.plain_edits.specs.History.{head}
use Rattle.plain_edits.specs.HistorySteps.{edits}
use Rattle.rev_engine.specs.declared.edit.Edit.{Edit}
use Rattle.rev_engine.specs.Engine.{asked_by}
use Rattle.rev_engine.specs.Given.{after, meant}
use Rattle.undo_groups.specs.Groups.{Groups}
use Rattle.edit_groups.specs.Grouping.{group_by, groups_by, known_group, named_group}
use Rattle.doc_text.specs.Asking.{asked_refusal, plugin_edit}
use Rattle.doc_text.specs.Fault.{DocRefuses}
use Rattle.doc_text.specs.InMemory.{TextState}
use Rattle.doc_text.specs.Inner.{IsStepFrom, left_text}
use Rattle.doc_text.specs.Refusal.{edit_refused}
use Rattle.doc_text.specs.Revised.{IsRevised}
use Rattle.doc_text.specs.Stands.{TextStandsFor}
use Rattle.doc_text.specs.Writing.{Writing}
use Rattle.doc_text.proofs.AgreeLemmas.{JoinsKnown}
use Rattle.doc_text.proofs.GroupLemmas.{Agree-named, JoinsKnown-named, counts-whole, few-whole, kept-whole, known_group-named}
use Rattle.doc_text.proofs.HeadLemmas.{some-whole}
use Rattle.doc_text.proofs.MoveLemmas.{ends-within, whole-after}
use Rattle.doc_text.proofs.RevisedLemmas.{IsAfter-plain, asked-given, group-named, groups-named}
use Rattle.doc_text.proofs.text.TextState.take_edit.Goals as goal

pub named_or_opened-requires : goal.named_or_opened-requires
named_or_opened-requires c =
    let text = c.self.inside in
    omega (
      arith,
      few-whole (arc_value text.engine) text.stack text.typing c.self.invariant,
      ap (λ (t : TextState). head t.engine.revisions) c.self.view_is,
      c.requires,
    )

pub step_by_edit-requires-clause-may : goal.step_by_edit-requires-clause-may
step_by_edit-requires-clause-may c =
    let text = c.self.inside in
    let joined = known_group text.stack c.args.named in
    let known = JoinsKnown-named text.stack c.args.named in
    let group_is : c.given-edit.result.group ≡ group_by text.stack joined = ap (λ (e : Edit). e.group) c.given-edit.ensures ∙ c.in_ok-made.ensures.group in
    record {
      group_counts = subst (λ g. 1 ≤ g) (sym group_is) (counts-whole (arc_value text.engine) text.stack text.typing c.self.invariant joined known);
      group_kept =
          subst (λ g. has (arc_value text.engine).revisions.collected g ≡ false) (sym group_is)
          (kept-whole (arc_value text.engine) text.stack text.typing c.self.invariant joined known);
      has_number = omega (arith, ap (λ (t : TextState). head t.engine.revisions) c.self.view_is, c.requires);
    }

pub step_by_edit-requires-clause-some : goal.step_by_edit-requires-clause-some
step_by_edit-requires-clause-some c =
    let text = c.self.inside in
    some-whole (arc_value text.engine) text.stack text.typing c.self.invariant

pub revised-requires-clause-made : goal.revised-requires-clause-made
revised-requires-clause-made c = subst (λ (t : TextState). IsStepFrom t.engine c.in_ok-step.step) c.self.view_is c.in_ok-step.ensures.made

pub revised-requires-clause-within : goal.revised-requires-clause-within
revised-requires-clause-within c =
    let text = c.self.inside in
    let asked = asked_by c.given-edit.result in
    ends-within (arc_value text.engine) text.stack text.typing (λ h. edits (meant h asked)) c.in_ok-step.step c.self.invariant
    (λ h state. c.in_ok-step.ensures.taken h state.stands)

pub revised-requires-clause-whole : goal.revised-requires-clause-whole
revised-requires-clause-whole c =
    let text = c.self.inside in
    let made = c.in_ok-made.made in
    let asked = asked_by c.given-edit.result in
    let joined = known_group text.stack c.args.named in
    let group_is : asked.group ≡ group_by text.stack joined = ap (λ (e : Edit). e.group) c.given-edit.ensures ∙ c.in_ok-made.ensures.group in
    whole-after (arc_value text.engine) text.stack text.typing (λ h. edits (meant h asked)) c.in_ok-step.step c.self.invariant
    (λ h state. c.in_ok-step.ensures.taken h state.stands) made.stack None c.in_ok-step.ensures.made.limit
    (λ h agree. Agree-named h text.stack text.typing joined asked.group asked.base asked.priority asked.author made.stack None agree
    (JoinsKnown-named text.stack c.args.named) group_is c.in_ok-made.ensures.stack refl c.in_ok-made.ensures.sound)

pub returns-in_err-revised-clause-refused : goal.returns-in_err-revised-clause-refused
returns-in_err-revised-clause-refused c = λ plain stands.
    let refusal = edit_refused (asked_refusal plain (plugin_edit plain c.args.caller c.args.edit None)) in
    let lack = err_from_is_err_and c.from_residual-in_err-revised.result c.from_residual-in_err-revised.ensures.1 in
    subst (λ r. IfErr r (DocRefuses refusal)) (sym lack.1) (subst (DocRefuses refusal) (sym lack.2) (λ other. absurd (other refl)))

pub returns-clause-revised : goal.returns-clause-revised
returns-clause-revised c = λ plain stands.
    let edit = c.args.edit in
    let caller = c.args.caller in
    let made = c.in_ok-made.made in
    let was = subst (λ (t : TextState). TextStandsFor t plain) (sym c.self.view_is) stands in
    let joined = named_group plain.history c.args.named in
    let asked = plugin_edit plain caller edit joined in
    let history = after plain.history asked in
    let group_is : made.group ≡ group_by plain.groups joined = c.in_ok-made.ensures.group ∙ group-named _ plain c.args.named was.parts in
    let stack_is : made.stack ≡ groups_by plain.groups joined = c.in_ok-made.ensures.stack ∙ groups-named _ plain c.args.named was.parts in
    let given = asked-given plain caller made.group joined edit c.given-edit.result c.given-edit.ensures group_is in
    let is = IsAfter-plain _ plain asked (asked_by c.given-edit.result) c.in_ok-step.step was.parts given c.in_ok-step.ensures.taken in
    let known = subst (JoinsKnown plain.groups) (known_group-named plain.history plain.groups plain.typing c.args.named stands.parts.agree)
    (JoinsKnown-named plain.groups c.args.named) in
    let agree = Agree-named plain.history plain.groups plain.typing joined asked.group asked.base asked.priority asked.author made.stack None stands.parts.agree
    known refl stack_is refl c.in_ok-made.ensures.sound in
    subst (λ (next : Writing). IsRevised plain next caller c.in_ok-revised.revised) (ap (λ (g : Groups). left_text plain history g None) stack_is)
    (c.in_ok-revised.ensures.revised plain history stands is agree)

pub returns-clause-group : goal.returns-clause-group
returns-clause-group c = λ plain stands.
    let was = subst (λ (t : TextState). TextStandsFor t plain) (sym c.self.view_is) stands in
    c.in_ok-made.ensures.group ∙ group-named _ plain c.args.named was.parts

pub returns-clause-accepted : goal.returns-clause-accepted
returns-clause-accepted c = λ plain stands.
    let text = c.self.inside in
    let was = subst (λ (t : TextState). TextStandsFor t plain) (sym c.self.view_is) stands in
    subst (λ limit. edit_refusal plain.history limit c.args.edit.rev c.args.edit.delta ≡ None) was.parts.limit
    (subst (λ (e : Edit). edit_refusal plain.history (arc_value text.engine).limit e.rev e.delta ≡ None) c.given-edit.ensures
    (c.in_ok-step.ensures.accepted plain.history was.parts.state.stands))
