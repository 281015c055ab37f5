use Rattle.shipped_plugins.specs.Turns.{utf8_of}
use Rattle.shipped_plugins.specs.Todo.{todo_step}
use Rattle.shipped_plugins.proofs.TurnLemmas.{HeededSoFar-next, HeededSoFar-short}
use Rattle.shipped_plugins.proofs.StepLemmas.{on_err_any}
use Rattle.shipped_plugins.proofs.marking.Marking.heed.Goals as goal

pub returns-in_err-heed_line-clause-first : goal.returns-in_err-heed_line-clause-first
returns-in_err-heed_line-clause-first c =
    on_err_any _
    (HeededSoFar-short todo_step c.args.self.now c.loop-line.self c.heed_line.new.self c.args.lines.now c.loop-line.line-index c.line-item.result
    (utf8_of c.args.given.now) (utf8_of c.loop-line.given) (utf8_of c.heed_line.new.given) c.loop-line.invariant c.loop-line-test.true c.line-item.is
    c.in_err-heed_line.ensures.first)

pub loop-line-preserved : goal.loop-line-preserved
loop-line-preserved c =
    HeededSoFar-next todo_step c.args.self.now c.loop-line.self c.heed_line.new.self c.args.lines.now c.loop-line.line-index c.line-item.result
    (utf8_of c.args.given.now) (utf8_of c.loop-line.given) (utf8_of c.heed_line.new.given) c.loop-line.invariant c.loop-line-test.true c.line-item.is
    c.in_ok-heed_line.ensures.all
