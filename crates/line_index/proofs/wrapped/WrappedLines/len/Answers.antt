use Rattle.std.proofs.Common.{◌≡◌, ap, arith}
use Rattle.line_index.proofs.wrapped.WrappedLines.len.Goals as goal

pub returns-clause-bound : goal.returns-clause-bound
returns-clause-bound c = rw (← c.self.view_is) (omega (arith, c.self.invariant.small))
