use Rattle.std.proofs.Common.{refl}
use Rattle.line_index.specs.Inner.{cuts_under}
use Rattle.line_index.proofs.WrappedLemmas.{point-cut, some-cuts}
use Rattle.line_index.proofs.wrapped.WrappedLines.locate.Goals as goal

pub index_at-line-requires : goal.index_at-line-requires
index_at-line-requires c = some-cuts c.self.inside.width c.self.inside.tab c.self.inside.rope (cuts_under c.self.inside.cuts) c.self.invariant

pub piece_at-start-requires : goal.piece_at-start-requires
piece_at-start-requires c = c.index_at-line.ensures.inside

pub overflow_sub-result : goal.overflow_sub-result
overflow_sub-result c =
    let own = c.self.inside in
    (point-cut own.width own.tab own.rope (cuts_under own.cuts) c.self.invariant c.args.gap c.index_at-line.result c.piece_at-start.result.start
    c.place_of-2.result c.place_of.result c.piece_at-start.result c.index_at-line.ensures c.piece_at-start.ensures refl c.place_of.ensures c.place_of-2.ensures).0

pub returns-clause-some : goal.returns-clause-some
returns-clause-some c =
    let own = c.self.inside in
    rw (← c.self.view_is)
    (point-cut own.width own.tab own.rope (cuts_under own.cuts) c.self.invariant c.args.gap c.index_at-line.result c.piece_at-start.result.start
    c.place_of-2.result c.place_of.result c.piece_at-start.result c.index_at-line.ensures c.piece_at-start.ensures refl c.place_of.ensures c.place_of-2.ensures).1
