use Rattle.std.proofs.Common.{◌≡◌, Option, Some, IfOk, sym, subst, ap}
use Rattle.entry_lines.specs.PluginAnswer.{verdict_of}
use Rattle.session_step.specs.PluginStep.{event_outcome, event_refusal}
use Rattle.session_step.specs.Session.{OpenView}
use Rattle.session_step.specs.Views.{IsFirstNamed, IsPlaceOf}
use Rattle.session_step.proofs.OpenLemmas.{first_inside, named_at, none_named}
use Rattle.session_step.specs.PluginEffects.{IsActed}
use Rattle.session_step.proofs.acted.in_view_with.Goals as goal

pub at_view-requires-clause-inside : goal.at_view-requires-clause-inside
at_view-requires-clause-inside c =
    first_inside c.args.held.now c.args.name.now c.in-Some.at (subst (IsPlaceOf c.args.held.now c.args.name.now) c.in-Some.is c.place_of.ensures)

pub returns-in-Some-clause-acted : goal.returns-in-Some-clause-acted
returns-in-Some-clause-acted c = λ views there.
    let is : IsFirstNamed c.args.held.now c.args.name.now c.in-Some.at =
    subst (IsPlaceOf c.args.held.now c.args.name.now) c.in-Some.is c.place_of.ensures in
    let found = named_at c.args.held.now views c.args.name.now c.in-Some.at there is in
    let At : Option OpenView → Type 0 =
    λ named. IfOk c.at_view.result (IsActed c.args.held.now (event_refusal named c.args.event) (event_outcome c.args.fresh.styles views named c.args.event)) in
    subst At (sym found.named) (c.at_view.ensures.acted views found.view there found.found)

pub returns-in_ok-no_view-in-None-clause-acted : goal.returns-in_ok-no_view-in-None-clause-acted
returns-in_ok-no_view-in-None-clause-acted c = λ views there.
    let none = none_named c.args.held.now views c.args.name.now there (subst (IsPlaceOf c.args.held.now c.args.name.now) c.in-None.is c.place_of.ensures) in
    let made = c.in_ok-no_view-in-None in
    let At : Option OpenView → Type 0 = λ named. event_refusal named c.args.event ≡ Some (verdict_of made.field-0) in
    subst At (sym none) (ap Some (sym made.ensures))
