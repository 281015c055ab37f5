use Rattle.std.proofs.Common.{ap}
use Rattle.xi_top.proofs.IntakeLemmas.{at_first}
use Rattle.xi_top.proofs.step.Run.new.Goals as goal

pub returns-clause-first : goal.returns-clause-first
returns-clause-first g c = λ empty.
    at_first (g.L.LineTaker.seen c.args.taker) _ empty (ap (λ begun. begun.bytes) c.new.ensures) (ap (λ begun. begun.count) c.new.ensures)
