use Rattle.std.proofs.Common.{Option, IfOk, sym, subst}
use Rattle.session_step.specs.InnerStep.{IsOutcome}
use Rattle.session_step.specs.Views.{IsFirstNamed, IsPlaceOf}
use Rattle.session_step.specs.News.{closed_news}
use Rattle.session_step.specs.Session.{OpenView, close_outcome}
use Rattle.session_step.proofs.OpenLemmas.{first_inside, named_at, none_named}
use Rattle.session_step.proofs.act.close.Goals as goal

pub close_at-requires-clause-inside : goal.close_at-requires-clause-inside
close_at-requires-clause-inside c =
    first_inside c.args.held.now c.args.name.now c.in-Some.at (subst (IsPlaceOf c.args.held.now c.args.name.now) c.in-Some.is c.place_of.ensures)

pub returns-in-Some : goal.returns-in-Some
returns-in-Some c = λ views there.
    let is : IsFirstNamed c.args.held.now c.args.name.now c.in-Some.at =
    subst (IsPlaceOf c.args.held.now c.args.name.now) c.in-Some.is c.place_of.ensures in
    let found = named_at c.args.held.now views c.args.name.now c.in-Some.at there is in
    let At : Option OpenView → Type 0 = λ named. IfOk c.close_at.result (IsOutcome (close_outcome views named) (closed_news named)) in
    subst At (sym found.named) (c.close_at.ensures views found.view there found.found)

pub returns-in-None : goal.returns-in-None
returns-in-None c = λ views there.
    let none = none_named c.args.held.now views c.args.name.now there (subst (IsPlaceOf c.args.held.now c.args.name.now) c.in-None.is c.place_of.ensures) in
    let At : Option OpenView → Type 0 = λ named. IfOk c.refused_view.result (IsOutcome (close_outcome views named) (closed_news named)) in
    subst At (sym none) (c.refused_view.ensures views there.0)
