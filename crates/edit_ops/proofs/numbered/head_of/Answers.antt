use Rattle.std.proofs.Common.{arith, refl}
use Rattle.movement_core.proofs.ForCallers.{head-start}
use Rattle.edit_ops.proofs.HeadLemmas.{IsBare-back, IsBare-line, IsHeadOf-found, numbered-or-later}
use Rattle.edit_ops.proofs.numbered.head_of.Goals as goal

pub loop-number-init : goal.loop-number-init
loop-number-init g c = IsBare-line _ c.args.line

pub piece_at-piece-requires : goal.piece_at-piece-requires
piece_at-piece-requires g c =
    let up_to = c.loop-number.invariant.up_to in
    let inside = c.requires.inside in omega arith

pub returns-in-Some : goal.returns-in-Some
returns-in-Some g c =
    IsHeadOf-found _ _ c.args.line c.in-Some.number c.piece_at-piece.result _ c.requires.sound c.piece_at-piece.ensures refl c.in-Some.is refl c.loop-number.invariant

pub overflow_sub-result : goal.overflow_sub-result
overflow_sub-result g c =
    let some = (head-start _ _ c.requires.sound c.loop-number.index c.in-Some.number c.piece_at-piece.result c.piece_at-piece.ensures c.in-Some.is).0 in omega arith

pub overflow_sub-index : goal.overflow_sub-index
overflow_sub-index g c =
    let later = numbered-or-later _ _ c.requires.sound c.loop-number.index c.piece_at-piece.result c.piece_at-piece.ensures c.in-None.is in omega arith

pub loop-number-preserved : goal.loop-number-preserved
loop-number-preserved g c = IsBare-back _ c.args.line c.loop-number.index c.piece_at-piece.result c.piece_at-piece.ensures c.in-None.is c.loop-number.invariant

pub loop-number-smaller : goal.loop-number-smaller
loop-number-smaller g c =
    let later = numbered-or-later _ _ c.requires.sound c.loop-number.index c.piece_at-piece.result c.piece_at-piece.ensures c.in-None.is in omega arith
