use Rattle.std.proofs.Common.{◌∙◌}
use Rattle.line_index.proofs.WholeLemmas.{line_start-converted, line_start-past}
use Rattle.line_index.proofs.offsets.line_start.Goals as goal

pub returns-in-Some : goal.returns-in-Some
returns-in-Some c = line_start-converted c.args.text.now c.args.index c.in-Some.gap c.in-Some.ensures.some

pub returns-in-None : goal.returns-in-None
returns-in-None c = c.len.ensures.count ∙ line_start-past c.args.text.now c.args.index c.in-None.ensures.none
