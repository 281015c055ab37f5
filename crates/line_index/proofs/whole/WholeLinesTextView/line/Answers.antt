use Rattle.std.proofs.Common.{sym, arith}
use Rattle.line_index.proofs.WholeLemmas.{piece-past, piece-whole}
use Rattle.line_index.proofs.whole.WholeLinesTextView.line.Goals as goal

pub returns-then-i-lf_count : goal.returns-then-i-lf_count
returns-then-i-lf_count c =
    rw (← c.self.view_is) (sym (piece-past c.self.inside.rope c.args.i (omega (arith, c.if-i-lf_count.true, c.lf_count.ensures.value))))

pub returns : goal.returns
returns c =
    rw (← c.self.view_is, c.line_run-run.ensures)
    (sym (piece-whole c.self.inside.rope c.args.i (omega (arith, c.if-i-lf_count.false, c.lf_count.ensures.value))))
