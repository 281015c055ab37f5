use Rattle.std.proofs.lemmas.Result.{on_ok_weaker}
use Rattle.plugin_replacer.proofs.StepLemmas.{ask-all}
use Rattle.plugin_replacer.proofs.replacer.Replacer.ask.Goals as goal

pub returns-clause-all : goal.returns-clause-all
returns-clause-all g c =
    let s = c.self.inside.search in
    on_ok_weaker c.put_all.result
    (ask-all g.M.Spot.found_in c.args.self.now s.spot s.new c.self.inside.book s.searched c.self.inside.fault c.self.view_is c.asks.new.self c.in_ok-asked.asked c.args.given.now c.put_all.new.given
    c.in_ok-asked.ensures.after c.in_ok-asked.ensures.lines)
    c.put_all.ensures.all
