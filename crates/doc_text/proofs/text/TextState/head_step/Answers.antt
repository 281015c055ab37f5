use Rattle.std.proofs.Common.{◌≡◌, ℕ, false, None, ap, sym, subst, refl}
use Rattle.std.specs.Prelude.{IfErr, IfOk, OnOk}
use Rattle.std.specs.Arc.{arc_value}
use Rattle.plain_text.specs.Numbers.{has}
use Rattle.plain_edits.specs.Edits.{edit_refusal}
use Rattle.plain_edits.specs.History.{head, text_at}
use Rattle.plain_edits.specs.Undo.{undone_now}
use Rattle.delta_core.specs.Elements.{delta_of}
use Rattle.delta_core.specs.Units.{text_after}
use Rattle.rev_engine.specs.declared.edit.UnitEdit.{UnitEdit}
use Rattle.rev_engine.specs.Engine.{StandsFor}
use Rattle.rev_engine.specs.Given.{AskedEdit, MayAsk}
use Rattle.doc_text.specs.declared.engine_step.EngineStep.{EngineStep}
use Rattle.doc_text.specs.Fault.{DocRefuses}
use Rattle.doc_text.specs.InMemory.{TextState, head_shown}
use Rattle.doc_text.specs.Inner.{IsAfterEdit, IsFrontEdit, IsStepFrom}
use Rattle.doc_text.specs.Refusal.{edit_refused}
use Rattle.doc_text.specs.Stands.{TextStandsFor}
use Rattle.doc_text.proofs.FrontLemmas.{IsSaidBy-front, IsSaidOfSome-front, leads-front, said_edit}
use Rattle.doc_text.proofs.text.TextState.head_step.Goals as goal

pub step_at_head-requires-clause-may : goal.step_at_head-requires-clause-may
step_at_head-requires-clause-may c =
    subst (λ (t : TextState). MayAsk t.engine.revisions c.front_edit-edit.result.group) (sym c.self.view_is)
    (subst (λ (e : UnitEdit). MayAsk c.args.self.now.engine.revisions e.group) (sym c.front_edit-edit.ensures) c.requires.may)

pub step_at_head-requires-clause-canonical : goal.step_at_head-requires-clause-canonical
step_at_head-requires-clause-canonical c =
    let now = c.args.self.now in
    let front : IsFrontEdit now.engine c.front_edit-edit.result =
    subst (IsFrontEdit now.engine) (sym c.front_edit-edit.ensures)
    (record { canonical = c.requires.canonical; base = c.requires.base; priority = refl; author = refl }) in
    front.canonical

pub step_at_head-requires-clause-base : goal.step_at_head-requires-clause-base
step_at_head-requires-clause-base c =
    let now = c.args.self.now in
    let front : IsFrontEdit now.engine c.front_edit-edit.result =
    subst (IsFrontEdit now.engine) (sym c.front_edit-edit.ensures)
    (record { canonical = c.requires.canonical; base = c.requires.base; priority = refl; author = refl }) in
    let here = subst (λ (t : TextState). IsFrontEdit t.engine c.front_edit-edit.result) (sym c.self.view_is) front in
    here.base

pub step_at_head-requires-clause-some : goal.step_at_head-requires-clause-some
step_at_head-requires-clause-some c =
    let text = c.self.inside in
    let now = c.args.self.now in
    let front : IsFrontEdit now.engine c.front_edit-edit.result =
    subst (IsFrontEdit now.engine) (sym c.front_edit-edit.ensures)
    (record { canonical = c.requires.canonical; base = c.requires.base; priority = refl; author = refl }) in
    let here = subst (λ (t : TextState). IsFrontEdit t.engine c.front_edit-edit.result) (sym c.self.view_is) front in
    IsSaidOfSome-front (arc_value text.engine) text.stack text.typing c.self.invariant c.front_edit-edit.result here

pub returns-clause-taken : goal.returns-clause-taken
returns-clause-taken c = λ history stands.
    let now = c.args.self.now in
    let front : IsFrontEdit now.engine c.front_edit-edit.result =
    subst (IsFrontEdit now.engine) (sym c.front_edit-edit.ensures)
    (record { canonical = c.requires.canonical; base = c.requires.base; priority = refl; author = refl }) in
    let here = subst (λ (t : TextState). IsFrontEdit t.engine c.front_edit-edit.result) (sym c.self.view_is) front in
    let was = subst (λ (t : TextState). StandsFor t.engine history) (sym c.self.view_is) stands in
    subst (λ (asked : AskedEdit). IfOk c.step_at_head.result (IsAfterEdit history asked)) (ap (said_edit history) c.front_edit-edit.ensures)
    (c.step_at_head.ensures.taken history (said_edit history c.front_edit-edit.result) was (IsSaidBy-front history _ was c.front_edit-edit.result here))

pub returns-clause-made : goal.returns-clause-made
returns-clause-made c = subst (λ (t : TextState). IfOk c.step_at_head.result (IsStepFrom t.engine)) c.self.view_is c.step_at_head.ensures.made

pub returns-clause-leads : goal.returns-clause-leads
returns-clause-leads c = λ shown.
    let text = c.self.inside in
    let now = c.args.self.now in
    let front : IsFrontEdit now.engine c.front_edit-edit.result =
    subst (IsFrontEdit now.engine) (sym c.front_edit-edit.ensures)
    (record { canonical = c.requires.canonical; base = c.requires.base; priority = refl; author = refl }) in
    let here = subst (λ (t : TextState). IsFrontEdit t.engine c.front_edit-edit.result) (sym c.self.view_is) front in
    let was : has (undone_now (arc_value text.engine).revisions) c.front_edit-edit.result.group ≡ false =
    subst (λ (t : TextState). has (undone_now t.engine.revisions) c.front_edit-edit.result.group ≡ false) (sym c.self.view_is)
    (subst (λ (e : UnitEdit). has (undone_now now.engine.revisions) e.group ≡ false) (sym c.front_edit-edit.ensures) shown) in
    let Leads : TextState → UnitEdit → Type 0 =
    λ t e. IfOk c.step_at_head.result (λ (step : EngineStep). head_shown (arc_value step.engine) ≡ text_after e.units (head_shown t.engine)) in
    subst (Leads now) c.front_edit-edit.ensures
    (subst (λ t. Leads t c.front_edit-edit.result) c.self.view_is
    (leads-front (arc_value text.engine) text.stack text.typing c.self.invariant c.front_edit-edit.result here c.step_at_head.result was
    (λ h stands. c.step_at_head.ensures.taken h (said_edit h c.front_edit-edit.result) stands (IsSaidBy-front h _ stands c.front_edit-edit.result here))))

pub returns-clause-accepted : goal.returns-clause-accepted
returns-clause-accepted c = λ plain stands.
    let now = c.args.self.now in
    let front : IsFrontEdit now.engine c.front_edit-edit.result =
    subst (IsFrontEdit now.engine) (sym c.front_edit-edit.ensures)
    (record { canonical = c.requires.canonical; base = c.requires.base; priority = refl; author = refl }) in
    let here = subst (λ (t : TextState). IsFrontEdit t.engine c.front_edit-edit.result) (sym c.self.view_is) front in
    let was = subst (λ (t : TextState). TextStandsFor t plain) (sym c.self.view_is) stands in
    let base = head plain.history in
    subst (λ (limit : ℕ). OnOk c.step_at_head.result (edit_refusal plain.history limit base (delta_of (text_at plain.history base) c.args.units) ≡ None)) was.parts.limit
    (subst (λ (e : UnitEdit). OnOk c.step_at_head.result
    (edit_refusal plain.history (arc_value c.self.inside.engine).limit base (delta_of (text_at plain.history base) e.units) ≡ None)) c.front_edit-edit.ensures
    (c.step_at_head.ensures.accepted plain.history (said_edit plain.history c.front_edit-edit.result) was.parts.state.stands
    (IsSaidBy-front plain.history _ was.parts.state.stands c.front_edit-edit.result here)))

pub returns-clause-refused : goal.returns-clause-refused
returns-clause-refused c = λ plain stands.
    let now = c.args.self.now in
    let front : IsFrontEdit now.engine c.front_edit-edit.result =
    subst (IsFrontEdit now.engine) (sym c.front_edit-edit.ensures)
    (record { canonical = c.requires.canonical; base = c.requires.base; priority = refl; author = refl }) in
    let here = subst (λ (t : TextState). IsFrontEdit t.engine c.front_edit-edit.result) (sym c.self.view_is) front in
    let was = subst (λ (t : TextState). TextStandsFor t plain) (sym c.self.view_is) stands in
    let base = head plain.history in
    subst (λ (limit : ℕ). IfErr c.step_at_head.result
    (DocRefuses (edit_refused (edit_refusal plain.history limit base (delta_of (text_at plain.history base) c.args.units))))) was.parts.limit
    (subst (λ (e : UnitEdit). IfErr c.step_at_head.result
    (DocRefuses (edit_refused (edit_refusal plain.history (arc_value c.self.inside.engine).limit base (delta_of (text_at plain.history base) e.units))))) c.front_edit-edit.ensures
    (c.step_at_head.ensures.refused plain.history (said_edit plain.history c.front_edit-edit.result) was.parts.state.stands
    (IsSaidBy-front plain.history _ was.parts.state.stands c.front_edit-edit.result here)))
