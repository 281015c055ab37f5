use Rattle.std.proofs.Common.{arith}
use Rattle.line_index.specs.Inner.{cuts_under}
use Rattle.line_index.proofs.WrappedLemmas.{length-cuts, line-cut, pieces-are, some-cuts}
use Rattle.line_index.proofs.wrapped.WrappedLinesTextView.line_of.Goals as goal

pub index_at-requires : goal.index_at-requires
index_at-requires c = some-cuts c.self.inside.width c.self.inside.tab c.self.inside.rope (cuts_under c.self.inside.cuts) c.self.invariant

pub returns-clause-line : goal.returns-clause-line
returns-clause-line c =
    let own = c.self.inside in
    rw (← c.self.view_is) (line-cut own.width own.tab own.rope (cuts_under own.cuts) c.self.invariant c.args.gap c.index_at.result c.index_at.ensures)

pub returns-clause-inside : goal.returns-clause-inside
returns-clause-inside c =
    let own = c.self.inside in
    let inside = c.index_at.ensures.inside in
    rw (← c.self.view_is) (omega (arith, inside, length-cuts own.width own.tab own.rope (cuts_under own.cuts) c.self.invariant))

pub returns-clause-sound : goal.returns-clause-sound
returns-clause-sound c =
    let own = c.self.inside in rw (← c.self.view_is) (pieces-are own.width own.tab own.rope (cuts_under own.cuts) c.self.invariant)
