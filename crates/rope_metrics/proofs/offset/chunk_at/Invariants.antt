use Rattle.std.proofs.Common.{◌+◌, ◌≤◌}
use Rattle.rope_metrics.proofs.OffsetLemmas.{IsOnWay}
use Rattle.rope_metrics.proofs.offset.chunk_at.Given as goal

abbrev pub invariant-loop-chunk : goal.invariant-loop-chunk
invariant-loop-chunk g l = record {
  way : IsOnWay l.from l.node.leaves l.at l.here.leaves l.before;
  count : l.steps + l.here.height ≤ l.fn.steps + (l.node.height + 1);
}

abbrev pub decreases-loop-chunk : goal.decreases-loop-chunk
decreases-loop-chunk g l = l.here.height
