use Rattle.std.proofs.Common.{arith, ◌∙◌}
use Rattle.line_index.specs.Inner.{cuts_under}
use Rattle.line_index.proofs.WholeLemmas.{length-logical_lines}
use Rattle.line_index.proofs.WrappedLemmas.{before-end, before-line, some-cuts}
use Rattle.line_index.proofs.wrapped.WrappedLines.cuts_before.Goals as goal

pub returns-then-line-lf_count : goal.returns-then-line-lf_count
returns-then-line-lf_count c =
    let own = c.self.inside in
    rw (← c.self.view_is)
    (c.len.ensures ∙ before-end own.width own.tab own.rope (cuts_under own.cuts) c.self.invariant c.args.line
    (omega (arith, c.if-line-lf_count.true, c.lf_count.ensures.value, length-logical_lines own.rope)))

pub index_at-requires : goal.index_at-requires
index_at-requires c = some-cuts c.self.inside.width c.self.inside.tab c.self.inside.rope (cuts_under c.self.inside.cuts) c.self.invariant

pub returns : goal.returns
returns c =
    let own = c.self.inside in
    rw (← c.self.view_is)
    (before-line own.width own.tab own.rope (cuts_under own.cuts) c.self.invariant c.args.line c.line_start.result c.index_at.result
    (omega (arith, c.if-line-lf_count.false, c.lf_count.ensures.value, length-logical_lines own.rope)) c.line_start.ensures c.index_at.ensures)
