use Rattle.std.proofs.Common.{arith, sym}
use Rattle.plain_screen.proofs.callers.OwnLemmas.{EndsIn-line, EndsIn-next, EndsIn-numbered, EndsIn-last}
use Rattle.plain_view.proofs.view.PlainView.end_under.Goals as goal

pub loop-at-init : goal.loop-at-init
loop-at-init c = EndsIn-line _ _ c.args.line _ c.lines-lines.ensures.sound c.piece_at-end.ensures

pub returns-then-is_some : goal.returns-then-is_some
returns-then-is_some c = EndsIn-numbered _ _ c.args.line _ _ _ c.loop-at.invariant c.piece_at-piece.ensures (sym c.if-is_some.ensures)

pub loop-at-preserved : goal.loop-at-preserved
loop-at-preserved c = EndsIn-next _ _ c.args.line _ _ _ c.loop-at.invariant c.piece_at-piece.ensures (sym c.if-is_some.ensures)

pub returns : goal.returns
returns c =
    let count = c.lines-lines.ensures.count in
    let past = c.loop-at-test.false in
    EndsIn-last _ _ c.args.line _ _ c.loop-at.invariant (omega arith)
