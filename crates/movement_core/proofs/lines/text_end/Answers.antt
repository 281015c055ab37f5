use Rattle.std.proofs.Common.{arith}
use Rattle.plain_screen.proofs.callers.OwnLemmas.{end-last, pieces-some}
use Rattle.movement_core.proofs.lines.text_end.Goals as goal

pub overflow_sub-lines : goal.overflow_sub-lines
overflow_sub-lines g c =
    let some = pieces-some _ _ c.lines.ensures.sound in
    let count = c.lines.ensures.count in omega arith

pub piece_at-requires : goal.piece_at-requires
piece_at-requires g c =
    let some = pieces-some _ _ c.lines.ensures.sound in
    let count = c.lines.ensures.count in omega arith

pub returns : goal.returns
returns g c =
    let some = pieces-some _ _ c.lines.ensures.sound in
    let count = c.lines.ensures.count in
    end-last _ _ _ _ c.lines.ensures.sound (omega arith) c.piece_at.ensures
