use Rattle.std.proofs.lemmas.Result.{on_ok_weaker}
use Rattle.shipped_plugins.proofs.TurnLemmas.{Gives-pushed}
use Rattle.shipped_plugins.proofs.give.give.Goals as goal

pub returns-clause-gives : goal.returns-clause-gives
returns-clause-gives c =
    on_ok_weaker c.push.result (Gives-pushed c.args.command.now c.in_ok-line.line c.args.given.now _ c.in_ok-line.ensures.line (c.in_ok-line.ensures.asked c.requires.taken)) c.push.ensures.pushed
