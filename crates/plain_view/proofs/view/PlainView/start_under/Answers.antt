use Rattle.std.proofs.Common.{arith, sym}
use Rattle.plain_screen.proofs.callers.OwnLemmas.{StandsIn-line, StandsIn-inside, StandsIn-start, StandsIn-back}
use Rattle.plain_view.proofs.view.PlainView.start_under.Goals as goal

pub loop-piece-init : goal.loop-piece-init
loop-piece-init c = StandsIn-line _ _ c.args.line c.requires.sound c.requires.inside

pub piece_at-piece-requires : goal.piece_at-piece-requires
piece_at-piece-requires c = StandsIn-inside _ _ c.args.line _ c.loop-piece.invariant

pub returns-then-is_some : goal.returns-then-is_some
returns-then-is_some c = StandsIn-start _ _ c.args.line _ _ c.loop-piece.invariant c.piece_at-piece.ensures (sym c.if-is_some.ensures)

pub overflow_sub-at : goal.overflow_sub-at
overflow_sub-at c = let back = (StandsIn-back _ _ c.args.line _ _ c.loop-piece.invariant c.piece_at-piece.ensures (sym c.if-is_some.ensures)).0 in omega arith

pub loop-piece-smaller : goal.loop-piece-smaller
loop-piece-smaller c = let back = (StandsIn-back _ _ c.args.line _ _ c.loop-piece.invariant c.piece_at-piece.ensures (sym c.if-is_some.ensures)).0 in omega arith

pub loop-piece-preserved : goal.loop-piece-preserved
loop-piece-preserved c = (StandsIn-back _ _ c.args.line _ _ c.loop-piece.invariant c.piece_at-piece.ensures (sym c.if-is_some.ensures)).1
