use Rattle.std.proofs.Common.{arith, refl}
use Rattle.line_break.specs.Pieces.{wrapped_pieces}
use Rattle.line_index.specs.Inner.{cuts_under}
use Rattle.line_index.proofs.WholeLemmas.{line_start-by, lf_count-le}
use Rattle.line_index.proofs.WrappedLemmas.{extent-start, length-cuts, piece-cut}
use Rattle.line_index.proofs.wrapped.WrappedLinesTextView.logical_of.Goals as goal

pub piece_at-start-requires : goal.piece_at-start-requires
piece_at-start-requires c =
    let own = c.self.inside in
    let inside = rw (← c.self.view_is) at c.requires in
    omega (arith, inside, length-cuts own.width own.tab own.rope (cuts_under own.cuts) c.self.invariant)

pub overflow_add-index : goal.overflow_add-index
overflow_add-index c =
    let own = c.self.inside in
    let few = (line_start-by own.rope c.piece_at-start.result.start c.line_at-index.result c.line_at-index.ensures).0 in
    let small = c.self.invariant.small in
    omega (arith, few, small, lf_count-le own.rope)

pub returns : goal.returns
returns c =
    let own = c.self.inside in
    let get = piece-cut own.width own.tab own.rope (cuts_under own.cuts) c.self.invariant c.args.line c.piece_at-start.result c.piece_at-start.ensures in
    rw (← c.self.view_is, c.line_start.ensures, c.line_start-2.ensures)
    (extent-start own.rope (wrapped_pieces own.width own.tab own.rope) c.args.line c.piece_at-start.result.start c.line_at-index.result c.piece_at-start.result get refl
    c.line_at-index.ensures)
