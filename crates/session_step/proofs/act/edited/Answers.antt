use Rattle.std.proofs.Common.{◌≡◌, ◌+◌, List, take, get_or, subst}
use Rattle.session_step.specs.declared.opened.Opened.{Opened}
use Rattle.session_step.specs.declared.stepped.Stepped.{Stepped}
use Rattle.session_step.specs.declared.stepped.ToEach.TheVariants as to
use Rattle.session_step.specs.InnerStep.{TakesSteps}
use Rattle.session_step.proofs.OpenLemmas.{IsOutcome-edited, rest_behind, serves_found}
use Rattle.session_step.proofs.act.edited.Goals as goal

pub returns : goal.returns
returns c = λ views view step there found made.
    let held = c.args.held.now in
    let none = c.index-held-at.result in
    let id = (get_or held c.args.at none).id in
    let own : id ≡ view.id = (serves_found held views c.args.at view none there.0 found).id in
    let At : Stepped → Type 0 = λ old. TakesSteps to.Other old (take c.args.at held) c.take.new.self in
    let Rest : List Opened → Type 0 = λ rest. TakesSteps to.Other c.push.new.self rest c.take-2.new.self in
    IsOutcome-edited held views c.args.at view step c.args.next c.args.effects id c.take.new.self c.push.new.self c.take-2.new.self
    c.answer_of.result c.in_ok-scroll.scroll c.in_ok-news.news c.effects_of.result there found own made (subst At c.new-stepped.ensures c.in_ok-take.ensures)
    c.in_ok-push.ensures.held c.in_ok-push.ensures.updates (subst Rest (rest_behind (c.args.at + 1) held) c.in_ok-take-2.ensures) c.answer_of.ensures c.in_ok-scroll.ensures c.effects_of.ensures c.in_ok-news.ensures
