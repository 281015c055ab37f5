use Rattle.std.proofs.Common.{ap, ◌∙◌}
use Rattle.plugin_replacer.specs.Turns.{Replacement, in_utf8}
use Rattle.plugin_replacer.proofs.StepLemmas.{turn-replaces}
use Rattle.plugin_replacer.proofs.replacer.ReplacerPlugin.turn.Goals as goal

pub returns-clause-replaces : goal.returns-clause-replaces
returns-clause-replaces g c =
    let had = c.have.new.self in
    turn-replaces g.M.Spot.found_in c.args.self.now had (in_utf8 c.args.lines.now) (in_utf8 c.new-given.result) (in_utf8 c.have.new.given) c.have.result _
    (ap in_utf8 c.new-given.ensures)
    (ap (λ (r : Replacement g.row.M.Denot). record r { fault = c.err.result }) c.self-2.view_is ∙ ap (λ fault. record had { fault = fault }) c.err.ensures.value)
    c.have.ensures.found c.have.ensures.new c.have.ensures.all c.have.ensures.ended c.have.ensures.first
