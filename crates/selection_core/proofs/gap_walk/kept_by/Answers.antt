use Rattle.std.proofs.Common.{arith}
use Rattle.selection_core.proofs.GapLemmas.{kept_left-none, kept_left-some, kept_left-bound}
use Rattle.selection_core.proofs.gap_walk.kept_by.Goals as goal

pub overflow_add-result : goal.overflow_add-result
overflow_add-result c =
    let is =
    kept_left-some c.args.units.now _ c.args.gap _ c.args.passed _ c.as_slice-runs.ensures c.requires.passed c.requires.ahead c.if-passed-runs.true
    c.min.ensures in
    omega (arith, is, kept_left-bound c.args.units.now c.args.gap, c.ranges.gap)

pub returns-then-passed-runs : goal.returns-then-passed-runs
returns-then-passed-runs c =
    kept_left-some _ _ _ _ _ _ c.as_slice-runs.ensures c.requires.passed c.requires.ahead c.if-passed-runs.true c.min.ensures

pub returns-else-passed-runs : goal.returns-else-passed-runs
returns-else-passed-runs c = kept_left-none _ _ _ _ c.as_slice-runs.ensures c.requires.passed c.if-passed-runs.false
