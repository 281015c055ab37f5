use Rattle.std.proofs.Common.{arith}
use Rattle.selection_core.proofs.GapLemmas.{HasPassedRuns-next, HasPassedRuns-bound, EndsPast-from}
use Rattle.selection_core.proofs.gap_walk.pass_runs.Goals as goal

pub loop-parts-init : goal.loop-parts-init
loop-parts-init c = c.requires

pub overflow_sub-count : goal.overflow_sub-count
overflow_sub-count c =
    (HasPassedRuns-next _ _ _ _ _ _ c.as_slice-runs.ensures c.loop-parts-test.true c.if-runs-parts.true c.loop-parts.invariant).0

pub overflow_add-count : goal.overflow_add-count
overflow_add-count c =
    let next = HasPassedRuns-next _ _ _ _ _ _ c.as_slice-runs.ensures c.loop-parts-test.true c.if-runs-parts.true c.loop-parts.invariant in
    omega (arith, HasPassedRuns-bound _ _ _ next.1, c.ranges.gap)

pub loop-parts-preserved : goal.loop-parts-preserved
loop-parts-preserved c =
    (HasPassedRuns-next _ _ _ _ _ _ c.as_slice-runs.ensures c.loop-parts-test.true c.if-runs-parts.true c.loop-parts.invariant).1

pub returns-else-runs-parts-clause-passed : goal.returns-else-runs-parts-clause-passed
returns-else-runs-parts-clause-passed c = c.loop-parts.invariant

pub returns-else-runs-parts-clause-ahead : goal.returns-else-runs-parts-clause-ahead
returns-else-runs-parts-clause-ahead c =
    EndsPast-from _ _ _ _ (record { start = 0; end = 0 }) c.as_slice-runs.ensures (λ inside. omega (arith, c.if-runs-parts.false))

pub returns-after-loop-parts-clause-passed : goal.returns-after-loop-parts-clause-passed
returns-after-loop-parts-clause-passed c = c.loop-parts.invariant

pub returns-after-loop-parts-clause-ahead : goal.returns-after-loop-parts-clause-ahead
returns-after-loop-parts-clause-ahead c =
    EndsPast-from _ _ _ _ (record { start = 0; end = 0 }) c.as_slice-runs.ensures (λ inside. absurd (omega (arith, inside, c.loop-parts-test.false)))
