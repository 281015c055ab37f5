use Rattle.std.proofs.Common.{◌≡◌, List, ℕ, length, None, ap, ap₂, sym, ◌∙◌, subst}
use Rattle.std.specs.Prelude.{IfErr}
use Rattle.std.proofs.lemmas.Result.{err_from_is_err_and}
use Rattle.plain_edits.specs.declared.delta.Delta.{Delta}
use Rattle.edit_ops.specs.Commands.{Effect}
use Rattle.edit_ops.specs.Replacements.{IsEditOf, text_with}
use Rattle.edit_groups.specs.Typing.{kind_of}
use Rattle.selection_core.specs.Mapped.{AreWithin}
use Rattle.doc_text.specs.Asking.{asked_refusal, head_edit}
use Rattle.doc_text.specs.Fault.{DocRefuses}
use Rattle.doc_text.specs.InMemory.{text_in}
use Rattle.doc_text.specs.Refusal.{edit_refused}
use Rattle.doc_text.specs.Revised.{IsRevised, IsRevisionOf}
use Rattle.doc_text.specs.Revisions.{typed_text}
use Rattle.doc_text.specs.Writing.{head_text}
use Rattle.doc_view.specs.View.{View, pieces_in}
use Rattle.doc_view.specs.Looking.{scrolls}
use Rattle.doc_session.specs.Asking.{replacing_delta}
use Rattle.doc_session.specs.InMemory.{Doc}
use Rattle.doc_session.specs.Inner.{IsStepped}
use Rattle.doc_session.specs.Stands.{DocStandsFor}
use Rattle.doc_session.specs.Step.{EventStep, answer_to, effect_in, effect_on, revised_document, revision_step, scroll_if}
use Rattle.doc_session.proofs.FrontLemmas.{delta-same, text_after-front}
use Rattle.doc_session.proofs.SomeLemmas.{effect-some}
use Rattle.doc_session.proofs.StepLemmas.{effect-is}
use Rattle.doc_session.proofs.TickLemmas.{IsRevised-typed}
use Rattle.doc_session.proofs.doc.Doc.typed.Goals as goal

pub type_units-requires-clause-canonical : goal.type_units-requires-clause-canonical
type_units-requires-clause-canonical g c = c.requires.effect.edit.canonical

pub type_units-requires-clause-base : goal.type_units-requires-clause-base
type_units-requires-clause-base g c =
    c.requires.effect.edit.of ∙ ap length (ap (λ (d : Doc). d.view.text) (sym c.self.view_is) ∙ c.self.invariant.shown_is)

pub revise-requires-clause-made : goal.revise-requires-clause-made
revise-requires-clause-made g c = subst (λ (d : Doc). IsRevisionOf d.text c.in_ok-revised.revised) c.self.view_is c.in_ok-revised.ensures.made

pub revise-requires-clause-sound : goal.revise-requires-clause-sound
revise-requires-clause-sound g c = c.requires.effect.sound

pub revise-requires-clause-inside : goal.revise-requires-clause-inside
revise-requires-clause-inside g c =
    let now = c.args.self.now in
    let replacements = (effect_in now.view c.args.act.now).replacements in
    let shown_is = ap (λ (d : Doc). d.view.text) (sym c.self.view_is) ∙ c.self.invariant.shown_is in
    let Over : List ℕ → Type 0 = λ t. IsEditOf (length t) replacements c.args.units in
    let leads =
    c.in_ok-revised.ensures.leads ∙ text_after-front (text_in c.self.inside.text) replacements c.args.units (subst Over shown_is c.requires.effect.edit) in
    subst (λ (t : List ℕ). AreWithin (length t) c.args.sel.regions) (sym (leads ∙ ap (text_with replacements) (sym shown_is))) c.requires.effect.inside

pub returns-clause-stepped : goal.returns-clause-stepped
returns-clause-stepped g c = λ plain stands.
    let now = c.args.self.now in
    let act = c.args.act.now in
    let units = c.args.units in
    let effect = effect_on plain act in
    let was = subst (λ (d : Doc). DocStandsFor d plain) (sym c.self.view_is) stands in
    let next = typed_text plain.text (kind_of act) (replacing_delta effect.replacements (head_text plain.text)) in
    let is : IsRevised plain.text next 0 c.in_ok-revised.revised =
    IsRevised-typed now plain act units c.kind_of.result c.in_ok-revised.revised stands c.requires.effect.edit c.kind_of.ensures
    (c.in_ok-revised.ensures.revised plain.text was.text) in
    let regions_is : c.args.sel.regions ≡ effect.regions = c.requires.effect.regions ∙ ap (λ (e : Effect). e.regions) (effect-is now plain act stands) in
    subst (λ (step : EventStep). IsStepped step c.in_ok-revise.field-0)
    (ap₂ (λ body asks. revision_step plain (revised_document plain next c.args.sel.regions) 0 body
    (scroll_if asks plain (revised_document plain next c.args.sel.regions))) (c.in_ok-body.ensures plain stands) c.scrolls.ensures ∙
    ap (λ regions. revision_step plain (revised_document plain next regions) 0 (answer_to plain act)
    (scroll_if (scrolls act) plain (revised_document plain next regions))) regions_is)
    (c.in_ok-revise.ensures.stepped plain next 0 stands is
    (λ none. effect-some plain.view.config plain.view.text (pieces_in plain.view) plain.view.regions stands.regions_are.some act (sym regions_is ∙ none)))

pub returns-clause-accepted : goal.returns-clause-accepted
returns-clause-accepted g c = λ plain stands.
    let now = c.args.self.now in
    let act = c.args.act.now in
    let units = c.args.units in
    let effect = effect_on plain act in
    let was = subst (λ (d : Doc). DocStandsFor d plain) (sym c.self.view_is) stands in
    let With : Effect → Type 0 = λ e. IsEditOf (length now.view.text) e.replacements units in
    let Over : List ℕ → Type 0 = λ t. IsEditOf (length t) effect.replacements units in
    let edits : IsEditOf (length (head_text plain.text)) effect.replacements units =
    subst Over (ap (λ (v : View). v.text) stands.view ∙ stands.of_head) (subst With (effect-is now plain act stands) c.requires.effect.edit) in
    let delta_is = delta-same (head_text plain.text) effect.replacements units edits in
    subst (λ (delta : Delta). asked_refusal plain.text (head_edit plain.text None delta) ≡ None) delta_is
    (c.in_ok-revised.ensures.accepted plain.text was.text)

pub returns-in_err-revised-clause-refused : goal.returns-in_err-revised-clause-refused
returns-in_err-revised-clause-refused g c = λ plain stands.
    let now = c.args.self.now in
    let act = c.args.act.now in
    let units = c.args.units in
    let effect = effect_on plain act in
    let was = subst (λ (d : Doc). DocStandsFor d plain) (sym c.self.view_is) stands in
    let With : Effect → Type 0 = λ e. IsEditOf (length now.view.text) e.replacements units in
    let Over : List ℕ → Type 0 = λ t. IsEditOf (length t) effect.replacements units in
    let edits : IsEditOf (length (head_text plain.text)) effect.replacements units =
    subst Over (ap (λ (v : View). v.text) stands.view ∙ stands.of_head) (subst With (effect-is now plain act stands) c.requires.effect.edit) in
    let delta_is = delta-same (head_text plain.text) effect.replacements units edits in
    let refusal = edit_refused (asked_refusal plain.text (head_edit plain.text None (replacing_delta effect.replacements (head_text plain.text)))) in
    let same = err_from_is_err_and c.from_residual.result c.from_residual.ensures.1 in
    subst (λ r. IfErr r (DocRefuses refusal)) (sym same.1) (subst (DocRefuses refusal) (sym same.2)
    (subst (λ (delta : Delta). DocRefuses (edit_refused (asked_refusal plain.text (head_edit plain.text None delta))) c.in_err-revised.field-0.0) delta_is
    (c.in_err-revised.ensures.refused plain.text was.text)))

pub returns-in_err-revise-clause-steps : goal.returns-in_err-revise-clause-steps
returns-in_err-revise-clause-steps g c = λ plain stands.
    let act = c.args.act.now in
    let was = subst (λ (d : Doc). DocStandsFor d plain) (sym c.self.view_is) stands in
    c.in_err-revise.ensures.steps plain
    (typed_text plain.text (kind_of act) (replacing_delta (effect_on plain act).replacements (head_text plain.text))) 0 stands
    (IsRevised-typed c.args.self.now plain act c.args.units c.kind_of.result c.in_ok-revised.revised stands c.requires.effect.edit c.kind_of.ensures
    (c.in_ok-revised.ensures.revised plain.text was.text))

pub returns-clause-steps : goal.returns-clause-steps
returns-clause-steps g c = λ plain stands.
    let act = c.args.act.now in
    let was = subst (λ (d : Doc). DocStandsFor d plain) (sym c.self.view_is) stands in
    c.in_ok-revise.ensures.steps plain
    (typed_text plain.text (kind_of act) (replacing_delta (effect_on plain act).replacements (head_text plain.text))) 0 stands
    (IsRevised-typed c.args.self.now plain act c.args.units c.kind_of.result c.in_ok-revised.revised stands c.requires.effect.edit c.kind_of.ensures
    (c.in_ok-revised.ensures.revised plain.text was.text))
