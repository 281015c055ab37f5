use Rattle.std.proofs.Common.{refl}
use Rattle.line_index.specs.Whole.{line_start}
use Rattle.line_index.proofs.WholeLemmas.{point-whole}
use Rattle.line_index.proofs.whole.WholeLines.locate.Goals as goal

pub overflow_sub-result : goal.overflow_sub-result
overflow_sub-result c =
    (point-whole c.self.inside.rope c.args.gap c.in_ok-at.at.line (line_start c.self.inside.rope c.in_ok-at.at.line) c.in_ok-at.at.start
    c.in_ok-at.at.place c.in_ok-at.ensures.line refl c.in_ok-at.ensures.place c.in_ok-at.ensures.start).0

pub returns-clause-some : goal.returns-clause-some
returns-clause-some c =
    rw (← c.self.view_is)
    (point-whole c.self.inside.rope c.args.gap c.in_ok-at.at.line (line_start c.self.inside.rope c.in_ok-at.at.line) c.in_ok-at.at.start
    c.in_ok-at.at.place c.in_ok-at.ensures.line refl c.in_ok-at.ensures.place c.in_ok-at.ensures.start).1
