use Rattle.std.proofs.Common.{arith, sym}
use Rattle.std.proofs.lemmas.Option.{slice_get_past}
use Rattle.line_break.specs.Pieces.{wrapped_pieces}
use Rattle.line_index.specs.Inner.{cuts_under}
use Rattle.line_index.proofs.WrappedLemmas.{length-cuts, piece-cut}
use Rattle.line_index.proofs.wrapped.WrappedLinesTextView.line.Goals as goal

pub returns-then-i-len : goal.returns-then-i-len
returns-then-i-len c =
    let own = c.self.inside in
    rw (← c.self.view_is)
    (sym (slice_get_past (wrapped_pieces own.width own.tab own.rope) c.args.i
    (omega (arith, c.if-i-len.true, c.len.ensures, length-cuts own.width own.tab own.rope (cuts_under own.cuts) c.self.invariant))))

pub returns : goal.returns
returns c =
    let own = c.self.inside in
    rw (← c.self.view_is)
    (sym (piece-cut own.width own.tab own.rope (cuts_under own.cuts) c.self.invariant c.args.i c.piece_at.result c.piece_at.ensures))
