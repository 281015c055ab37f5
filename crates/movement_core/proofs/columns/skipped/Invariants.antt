use Rattle.std.proofs.Common.{◌≡◌, length}
use Rattle.cluster_core.specs.Walk.{walk_left, walk_tab}
use Rattle.movement_core.specs.Inner.{items_past}
use Rattle.movement_core.proofs.columns.skipped.Given as goal

abbrev pub invariant-loop-at : goal.invariant-loop-at
invariant-loop-at l = record {
  past : items_past l.from l.at (walk_left l.walk) ≡ items_past l.from 0 (walk_left l.fn.start);
  tab : walk_tab l.walk ≡ walk_tab l.fn.start;
}

abbrev pub decreases-loop-at : goal.decreases-loop-at
decreases-loop-at l = length (walk_left l.walk)
