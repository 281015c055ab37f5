use Rattle.std.proofs.Common.{◌∙◌}
use Rattle.line_index.proofs.WholeLemmas.{line-converted, line-past}
use Rattle.line_index.proofs.offsets.line_at.Goals as goal

pub returns-in-Some : goal.returns-in-Some
returns-in-Some c = line-converted c.args.text.now c.args.gap c.in-Some.index c.in-Some.ensures.some

pub returns-in-None : goal.returns-in-None
returns-in-None c = c.lf_count.ensures.value ∙ line-past c.args.text.now c.args.gap c.in-None.ensures.none
