use Rattle.std.proofs.Common.{[], Option, IfOk, sym, subst}
use Rattle.session_step.specs.InnerStep.{IsOutcome}
use Rattle.session_step.specs.Views.{IsFirstNamed, IsPlaceOf}
use Rattle.session_step.specs.Session.{OpenView, save_outcome}
use Rattle.session_step.proofs.OpenLemmas.{first_inside, named_at, none_named}
use Rattle.session_step.proofs.act.save.Goals as goal

pub save_at-requires-clause-inside : goal.save_at-requires-clause-inside
save_at-requires-clause-inside c =
    first_inside c.args.held.now c.args.name.now c.in-Some.at (subst (IsPlaceOf c.args.held.now c.args.name.now) c.in-Some.is c.place_of.ensures)

pub returns-in-Some : goal.returns-in-Some
returns-in-Some c = λ views there.
    let is : IsFirstNamed c.args.held.now c.args.name.now c.in-Some.at =
    subst (IsPlaceOf c.args.held.now c.args.name.now) c.in-Some.is c.place_of.ensures in
    let found = named_at c.args.held.now views c.args.name.now c.in-Some.at there is in
    let At : Option OpenView → Type 0 = λ named. IfOk c.save_at.result (IsOutcome (save_outcome views named c.args.given.now) []) in
    subst At (sym found.named) (c.save_at.ensures views found.view there found.found)

pub returns-in-None : goal.returns-in-None
returns-in-None c = λ views there.
    let none = none_named c.args.held.now views c.args.name.now there (subst (IsPlaceOf c.args.held.now c.args.name.now) c.in-None.is c.place_of.ensures) in
    let At : Option OpenView → Type 0 = λ named. IfOk c.refused_view.result (IsOutcome (save_outcome views named c.args.given.now) []) in
    subst At (sym none) (c.refused_view.ensures views there.0)
