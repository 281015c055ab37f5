use Rattle.std.proofs.Common.{◌≡◌, List, None, subst}
use Rattle.entry_lines.specs.declared.notice.PluginNews.{PluginNews}
use Rattle.session_step.specs.declared.stepped.Stepped.{Stepped}
use Rattle.session_step.specs.InnerStep.{TakesSteps}
use Rattle.session_step.proofs.OpenLemmas.{IsOutcome-each}
use Rattle.session_step.proofs.act.each.Goals as goal

pub returns : goal.returns
returns c = λ views stands.
    let new = c.take.new.self in
    let At : Stepped → Type 0 = λ old. TakesSteps c.args.told old c.args.held.now new in
    let Is : List PluginNews → Type 0 =
    λ news. c.effects_of.result ≡ record { reply = c.args.reply; held = new.held; updates = new.updates; scroll = None; news = news } in
    IsOutcome-each c.args.told c.args.held.now new c.args.reply c.effects_of.result views (subst At c.new-stepped.ensures c.in_ok-take.ensures)
    (subst Is c.new.ensures c.effects_of.ensures) stands
