use Rattle.std.proofs.Common.{sym, subst}
use Rattle.xi_top.specs.InnerRun.{Enters}
use Rattle.xi_top.proofs.EnterLemmas.{enters_by}
use Rattle.xi_top.proofs.enter.enter.Goals as goal

pub returns-clause-entered : goal.returns-clause-entered
returns-clause-entered g c =
    let l = g.L.LineTaker in
    let old = l.seen c.args.taker.now in
    let new = l.seen c.take.new.self in
    subst (Enters old new c.args.line) (sym c.ended_by.ensures)
    (enters_by (l.serves c.args.taker.now) c.args.line old new c.take.result c.requires.reads c.take.ensures.took c.take.ensures.served)
