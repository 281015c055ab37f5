use Rattle.std.proofs.Common.{◌≡◌, ◌≤◌, false, Option, refl, ap, ap₂, sym, ◌∙◌, subst, arith}
use Rattle.std.specs.Arc.{arc_value}
use Rattle.plain_text.specs.Numbers.{has}
use Rattle.plain_edits.specs.HistorySteps.{edits}
use Rattle.plain_edits.specs.History.{History, head}
use Rattle.plain_edits.specs.Undo.{undone_now}
use Rattle.delta_core.specs.Elements.{delta_of}
use Rattle.rev_engine.specs.Engine.{StandsFor}
use Rattle.rev_engine.specs.Given.{MayAsk, after, meant}
use Rattle.undo_groups.specs.Groups.{Groups}
use Rattle.edit_groups.specs.declared.typing.Typing.{Typing}
use Rattle.edit_groups.specs.Grouping.{group_by, groups_by, run_group}
use Rattle.edit_groups.specs.Typing.{run_on, run_with}
use Rattle.doc_text.specs.Asking.{front_priority, head_edit, headed_edit}
use Rattle.doc_text.specs.InMemory.{TextState}
use Rattle.doc_text.specs.Inner.{IsAfterEdit, left_text, unit_edit}
use Rattle.doc_text.specs.Revised.{IsRevised}
use Rattle.doc_text.specs.Stands.{TextStandsFor}
use Rattle.doc_text.specs.Writing.{Writing, head_text}
use Rattle.doc_text.proofs.GroupLemmas.{Agree-front, few-whole, open-whole}
use Rattle.doc_text.proofs.MoveLemmas.{ends-within, whole-after}
use Rattle.doc_text.proofs.RevisedLemmas.{group-front, groups-front}
use Rattle.doc_text.proofs.text.TextState.type_units.Goals as goal

pub joined_or_opened-requires : goal.joined_or_opened-requires
joined_or_opened-requires c =
    let text = c.self.inside in
    omega (
      arith,
      few-whole (arc_value text.engine) text.stack text.typing c.self.invariant,
      ap (λ (t : TextState). head t.engine.revisions) c.self.view_is,
      c.requires.has_number,
    )

pub head_step-requires-clause-may : goal.head_step-requires-clause-may
head_step-requires-clause-may c =
    let text = c.self.inside in
    let kind = c.args.kind in
    let joined = run_group (run_on text.typing kind) in
    let joined_is : c.run_group-joined.result ≡ joined = c.run_group-joined.ensures ∙ ap run_group c.run_on.ensures in
    let group_is : c.in_ok-made.made.group ≡ group_by text.stack joined = c.in_ok-made.ensures.group ∙ ap (group_by text.stack) joined_is in
    let is_open = open-whole (arc_value text.engine) text.stack text.typing c.self.invariant kind in
    subst (λ (t : TextState). MayAsk t.engine.revisions c.in_ok-made.made.group) c.self.view_is (record {
      group_counts = subst (λ g. 1 ≤ g) (sym group_is) is_open.counts;
      group_kept = subst (λ g. has (arc_value text.engine).revisions.collected g ≡ false) (sym group_is) is_open.kept;
      has_number = omega (arith, ap (λ (t : TextState). head t.engine.revisions) c.self.view_is, c.requires.has_number);
    })

pub revised-requires-clause-made : goal.revised-requires-clause-made
revised-requires-clause-made c = c.in_ok-step.ensures.made

pub revised-requires-clause-within : goal.revised-requires-clause-within
revised-requires-clause-within c =
    let text = c.self.inside in
    let group = c.in_ok-made.made.group in
    let Each : TextState → Type 0 =
    λ t. (h : History) → StandsFor t.engine h → IsAfterEdit h (unit_edit group h c.args.units) c.in_ok-step.step in
    let each = subst Each (sym c.self.view_is) c.in_ok-step.ensures.taken in
    ends-within (arc_value text.engine) text.stack text.typing (λ h. edits (meant h (unit_edit group h c.args.units))) c.in_ok-step.step c.self.invariant
    (λ h was. each h was.stands)

pub revised-requires-clause-whole : goal.revised-requires-clause-whole
revised-requires-clause-whole c =
    let text = c.self.inside in
    let kind = c.args.kind in
    let joined = run_group (run_on text.typing kind) in
    let joined_is : c.run_group-joined.result ≡ joined = c.run_group-joined.ensures ∙ ap run_group c.run_on.ensures in
    let group_is : c.in_ok-made.made.group ≡ group_by text.stack joined = c.in_ok-made.ensures.group ∙ ap (group_by text.stack) joined_is in
    let made = c.in_ok-made.made in
    let stack_is : made.stack ≡ groups_by text.stack joined = c.in_ok-made.ensures.stack ∙ ap (groups_by text.stack) joined_is in
    let Each : TextState → Type 0 =
    λ t. (h : History) → StandsFor t.engine h → IsAfterEdit h (unit_edit made.group h c.args.units) c.in_ok-step.step in
    let each = subst Each (sym c.self.view_is) c.in_ok-step.ensures.taken in
    whole-after (arc_value text.engine) text.stack text.typing (λ h. edits (meant h (unit_edit made.group h c.args.units))) c.in_ok-step.step c.self.invariant
    (λ h was. each h was.stands) made.stack c.run_with-typing.result
    (c.in_ok-step.ensures.made.limit ∙ ap (λ (t : TextState). t.engine.limit) (sym c.self.view_is))
    (λ h agree. Agree-front h text.stack text.typing kind made.group (head h) front_priority 0 made.stack c.run_with-typing.result agree group_is stack_is
    c.run_with-typing.ensures c.in_ok-made.ensures.sound)

pub returns-clause-revised : goal.returns-clause-revised
returns-clause-revised c = λ plain stands.
    let text = c.self.inside in
    let kind = c.args.kind in
    let own = run_group (run_on text.typing kind) in
    let own_is : c.run_group-joined.result ≡ own = c.run_group-joined.ensures ∙ ap run_group c.run_on.ensures in
    let group_is : c.in_ok-made.made.group ≡ group_by text.stack own = c.in_ok-made.ensures.group ∙ ap (group_by text.stack) own_is in
    let made = c.in_ok-made.made in
    let was = subst (λ (t : TextState). TextStandsFor t plain) (sym c.self.view_is) stands in
    let joined = run_group (run_on plain.typing kind) in
    let delta = delta_of (head_text plain) c.args.units in
    let history = after plain.history (head_edit plain joined delta) in
    let made_is : made.group ≡ group_by plain.groups joined = group_is ∙ group-front _ plain kind was.parts in
    let stack_is : made.stack ≡ groups_by plain.groups joined =
    c.in_ok-made.ensures.stack ∙ ap (groups_by text.stack) own_is ∙ groups-front _ plain kind was.parts in
    let typing_is : c.run_with-typing.result ≡ run_with kind (group_by plain.groups joined) = c.run_with-typing.ensures ∙ ap (run_with kind) made_is in
    let is = subst (λ g. IsAfterEdit plain.history (headed_edit g plain.history delta) c.in_ok-step.step) made_is
    (c.in_ok-step.ensures.taken plain.history stands.parts.state.stands) in
    let agree = Agree-front plain.history plain.groups plain.typing kind (group_by plain.groups joined) (head plain.history) front_priority 0 made.stack c.run_with-typing.result
    stands.parts.agree refl stack_is typing_is c.in_ok-made.ensures.sound in
    subst (λ (next : Writing). IsRevised plain next 0 c.in_ok-revised.field-0)
    (ap₂ (λ (g : Groups) (t : Option Typing). left_text plain history g t) stack_is typing_is)
    (c.in_ok-revised.ensures.revised plain history stands is agree)

pub returns-clause-leads : goal.returns-clause-leads
returns-clause-leads c =
    let text = c.self.inside in
    let kind = c.args.kind in
    let joined = run_group (run_on text.typing kind) in
    let joined_is : c.run_group-joined.result ≡ joined = c.run_group-joined.ensures ∙ ap run_group c.run_on.ensures in
    let group_is : c.in_ok-made.made.group ≡ group_by text.stack joined = c.in_ok-made.ensures.group ∙ ap (group_by text.stack) joined_is in
    let is_open = open-whole (arc_value text.engine) text.stack text.typing c.self.invariant kind in
    let shown = subst (λ (t : TextState). has (undone_now t.engine.revisions) c.in_ok-made.made.group ≡ false) c.self.view_is
    (subst (λ g. has (undone_now (arc_value text.engine).revisions) g ≡ false) (sym group_is) is_open.shown) in
    c.in_ok-revised.ensures.shown ∙ c.in_ok-step.ensures.leads shown
