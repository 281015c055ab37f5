use Rattle.std.proofs.Common.{◌≡◌, None, ap, sym, ◌∙◌, subst}
use Rattle.std.specs.Prelude.{if◌then◌else◌, IfErr, IfOk, OnOk}
use Rattle.selection_core.specs.Mapped.{AreWithin}
use Rattle.doc_text.specs.Asking.{asked_refusal}
use Rattle.doc_session.specs.Asking.{front_edit}
use Rattle.doc_text.specs.Fault.{DocRefuses}
use Rattle.doc_text.specs.Refusal.{edit_refused}
use Rattle.doc_session.specs.Inner.{IsStepped}
use Rattle.doc_session.specs.Step.{command_step, effect_in, effect_on, no_edit_step, typed_step}
use Rattle.doc_session.proofs.IdleLemmas.{length-idle}
use Rattle.doc_session.proofs.StepLemmas.{effect-made, idle-is}
use Rattle.doc_session.proofs.TickLemmas.{ticks-step}
use Rattle.doc_session.proofs.doc.Doc.command.Goals as goal

pub no_edit-requires-clause-regions : goal.no_edit-requires-clause-regions
no_edit-requires-clause-regions g c =
    (effect-made _ c.args.self.now c.args.act.now c.in_ok-units.units c.in_ok-units.sel.regions c.self.view_is c.in_ok-units.ensures).regions

pub no_edit-requires-clause-sound : goal.no_edit-requires-clause-sound
no_edit-requires-clause-sound g c = c.in_ok-units.ensures.sound

pub no_edit-requires-clause-inside : goal.no_edit-requires-clause-inside
no_edit-requires-clause-inside g c =
    let made =
    effect-made _ c.args.self.now c.args.act.now c.in_ok-units.units c.in_ok-units.sel.regions c.self.view_is c.in_ok-units.ensures in
    subst (λ n. AreWithin n c.in_ok-units.sel.regions)
    (length-idle c.args.self.now.view.text (effect_in c.args.self.now.view c.args.act.now) c.in_ok-units.units c.in_ok-units.sel.regions c.does_nothing.result made
    c.does_nothing.ensures c.if-does_nothing.true)
    made.inside

pub typed-requires-clause-effect : goal.typed-requires-clause-effect
typed-requires-clause-effect g c =
    effect-made _ c.args.self.now c.args.act.now c.in_ok-units.units c.in_ok-units.sel.regions c.self.view_is c.in_ok-units.ensures

pub returns-then-does_nothing-clause-stepped : goal.returns-then-does_nothing-clause-stepped
returns-then-does_nothing-clause-stepped g c = λ plain stands.
    let act = c.args.act.now in
    let effect = effect_on plain act in
    let made =
    effect-made _ c.args.self.now act c.in_ok-units.units c.in_ok-units.sel.regions c.self.view_is c.in_ok-units.ensures in
    let idle = idle-is c.args.self.now plain act c.in_ok-units.units c.in_ok-units.sel.regions c.does_nothing.result stands made c.does_nothing.ensures in
    subst (λ b. IsStepped (if b then no_edit_step plain act effect else typed_step plain act effect) c.in_ok-no_edit.field-0) (sym (sym idle ∙ c.if-does_nothing.true))
    (c.in_ok-no_edit.ensures.stepped plain stands)

pub returns-then-does_nothing-clause-accepted : goal.returns-then-does_nothing-clause-accepted
returns-then-does_nothing-clause-accepted g c = λ plain stands.
    let act = c.args.act.now in
    let made =
    effect-made _ c.args.self.now act c.in_ok-units.units c.in_ok-units.sel.regions c.self.view_is c.in_ok-units.ensures in
    let idle = idle-is c.args.self.now plain act c.in_ok-units.units c.in_ok-units.sel.regions c.does_nothing.result stands made c.does_nothing.ensures in
    ap (λ b. if b then None else asked_refusal plain.text (front_edit plain None (effect_on plain act).replacements)) (sym idle ∙ c.if-does_nothing.true)

pub returns-clause-stepped : goal.returns-clause-stepped
returns-clause-stepped g c = λ plain stands.
    let act = c.args.act.now in
    let effect = effect_on plain act in
    let made =
    effect-made _ c.args.self.now act c.in_ok-units.units c.in_ok-units.sel.regions c.self.view_is c.in_ok-units.ensures in
    let idle = idle-is c.args.self.now plain act c.in_ok-units.units c.in_ok-units.sel.regions c.does_nothing.result stands made c.does_nothing.ensures in
    subst (λ b. IfOk c.typed.result (IsStepped (if b then no_edit_step plain act effect else typed_step plain act effect))) (sym (sym idle ∙ c.if-does_nothing.false))
    (c.typed.ensures.stepped plain stands)

pub returns-clause-accepted : goal.returns-clause-accepted
returns-clause-accepted g c = λ plain stands.
    let act = c.args.act.now in
    let made =
    effect-made _ c.args.self.now act c.in_ok-units.units c.in_ok-units.sel.regions c.self.view_is c.in_ok-units.ensures in
    let idle = idle-is c.args.self.now plain act c.in_ok-units.units c.in_ok-units.sel.regions c.does_nothing.result stands made c.does_nothing.ensures in
    subst (λ b. OnOk c.typed.result ((if b then None else asked_refusal plain.text (front_edit plain None (effect_on plain act).replacements)) ≡ None))
    (sym (sym idle ∙ c.if-does_nothing.false)) (c.typed.ensures.accepted plain stands)

pub returns-clause-refused : goal.returns-clause-refused
returns-clause-refused g c = λ plain stands.
    let act = c.args.act.now in
    let made =
    effect-made _ c.args.self.now act c.in_ok-units.units c.in_ok-units.sel.regions c.self.view_is c.in_ok-units.ensures in
    let idle = idle-is c.args.self.now plain act c.in_ok-units.units c.in_ok-units.sel.regions c.does_nothing.result stands made c.does_nothing.ensures in
    subst (λ b. IfErr c.typed.result (DocRefuses (edit_refused (if b then None else asked_refusal plain.text (front_edit plain None (effect_on plain act).replacements)))))
    (sym (sym idle ∙ c.if-does_nothing.false)) (c.typed.ensures.refused plain stands)

pub returns-clause-steps : goal.returns-clause-steps
returns-clause-steps g c = λ plain stands.
    let act = c.args.act.now in
    let effect = effect_on plain act in
    let made =
    effect-made _ c.args.self.now act c.in_ok-units.units c.in_ok-units.sel.regions c.self.view_is c.in_ok-units.ensures in
    let idle = idle-is c.args.self.now plain act c.in_ok-units.units c.in_ok-units.sel.regions c.does_nothing.result stands made c.does_nothing.ensures in
    ticks-step _ _ plain (command_step plain act effect) (typed_step plain act effect)
    (ap (λ b. if b then no_edit_step plain act effect else typed_step plain act effect) (sym idle ∙ c.if-does_nothing.false))
    (c.typed.ensures.steps plain stands)
