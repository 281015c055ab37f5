use Rattle.std.proofs.Common.{arith}
use Rattle.line_index.specs.Inner.{cuts_under}
use Rattle.line_index.proofs.WrappedLemmas.{length-cuts, pieces-are}
use Rattle.line_index.proofs.wrapped.WrappedLinesTextView.lines.Goals as goal

pub returns-clause-count : goal.returns-clause-count
returns-clause-count c =
    let own = c.self.inside in
    rw (← c.self.view_is) (omega (arith, c.len.ensures, length-cuts own.width own.tab own.rope (cuts_under own.cuts) c.self.invariant))

pub returns-clause-sound : goal.returns-clause-sound
returns-clause-sound c =
    let own = c.self.inside in rw (← c.self.view_is) (pieces-are own.width own.tab own.rope (cuts_under own.cuts) c.self.invariant)
