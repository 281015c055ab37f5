use Rattle.std.proofs.Common.{◌+◌, List, take, subst}
use Rattle.session_step.specs.declared.opened.Opened.{Opened}
use Rattle.session_step.specs.declared.stepped.Stepped.{Stepped}
use Rattle.session_step.specs.declared.stepped.ToEach.TheVariants as to
use Rattle.session_step.specs.InnerStep.{TakesSteps}
use Rattle.session_step.proofs.OpenLemmas.{IsOutcome-closed, rest_behind, serves_found}
use Rattle.session_step.proofs.act.close_at.Goals as goal

pub returns : goal.returns
returns c = λ views view there found.
    let At : Stepped → Type 0 = λ old. TakesSteps to.Other old (take c.args.at c.args.held.now) c.take.new.self in
    let Rest : List Opened → Type 0 = λ rest. TakesSteps to.Other c.take.new.self rest c.take-2.new.self in
    IsOutcome-closed c.args.held.now views c.args.at view c.take.new.self c.take-2.new.self c.in_ok-news.news c.effects_of.result there found
    (subst At c.new-stepped.ensures c.in_ok-take.ensures) (subst Rest (rest_behind (c.args.at + 1) c.args.held.now) c.in_ok-take-2.ensures)
    c.effects_of.ensures (c.in_ok-news.ensures view (serves_found c.args.held.now views c.args.at view _ there.0 found).id)
