use Rattle.std.proofs.Common.{◌+◌, ◌-◌, arith, refl}
use Rattle.rope_node.specs.Lengths.{lf_count}
use Rattle.line_index.proofs.WholeLemmas.{lf_count-le, line_start-by}
use Rattle.line_index.proofs.WrappedLemmas.{lines-touched}
use Rattle.line_index.proofs.touched.touched_lines.Goals as goal

pub changed_run-run-requires-clause-small : goal.changed_run-run-requires-clause-small
changed_run-run-requires-clause-small c = omega (arith, c.requires.base, c.requires.short)

pub overflow_add-old : goal.overflow_add-old
overflow_add-old c =
    let few = (line_start-by c.args.before.now c.changed_run-run.result.end c.line_at-old.result c.line_at-old.ensures).0 in
    omega (arith, lf_count-le c.args.before.now, c.requires.short)

pub overflow_add-new : goal.overflow_add-new
overflow_add-new c =
    let few = (line_start-by c.args.before.now c.changed_run-run.result.end c.line_at-old.result c.line_at-old.ensures).0 in
    omega (arith, lf_count-le c.args.before.now, c.requires.short, c.lf_count.ensures.few, c.requires.short_after)

pub overflow_sub-new : goal.overflow_sub-new
overflow_sub-new c =
    let lines = lines-touched c.args.units.now c.args.before.now c.args.after.now c.changed_run-run.result c.line_at-from.result (c.line_at-old.result + 1)
    (lf_count c.args.after.now + (c.line_at-old.result + 1) - lf_count c.args.before.now) c.requires.base c.changed_run-run.ensures c.requires.leads
    c.line_at-from.ensures (omega (arith, c.line_at-old.ensures)) refl in
    let under = lines.under in omega (arith, c.lf_count.ensures.value, c.lf_count-2.ensures.value)

pub returns : goal.returns
returns c =
    lines-touched c.args.units.now c.args.before.now c.args.after.now c.changed_run-run.result c.line_at-from.result (c.line_at-old.result + 1)
    (c.lf_count.result + (c.line_at-old.result + 1) - c.lf_count-2.result) c.requires.base c.changed_run-run.ensures c.requires.leads
    c.line_at-from.ensures (omega (arith, c.line_at-old.ensures)) (omega (arith, c.lf_count.ensures.value, c.lf_count-2.ensures.value))
