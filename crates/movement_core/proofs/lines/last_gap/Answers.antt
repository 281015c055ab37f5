use Rattle.std.proofs.Common.{arith, ◌∙◌}
use Rattle.movement_core.proofs.LineLemmas.{IsLastGap-last, IsLastGap-next}
use Rattle.movement_core.proofs.lines.last_gap.Goals as goal

pub returns-then-line-lines : goal.returns-then-line-lines
returns-then-line-lines g c = IsLastGap-last _ _ c.args.line _ c.lines-lines.ensures.sound (c.if-line-lines.true ∙ c.lines-lines.ensures.count) c.piece_at.ensures

pub overflow_sub-result : goal.overflow_sub-result
overflow_sub-result g c = let some = (IsLastGap-next _ _ c.args.line _ c.lines-lines.ensures.sound c.piece_at-else-line-lines.ensures).0 in omega arith

pub returns-else-line-lines : goal.returns-else-line-lines
returns-else-line-lines g c = (IsLastGap-next _ _ c.args.line _ c.lines-lines.ensures.sound c.piece_at-else-line-lines.ensures).1
