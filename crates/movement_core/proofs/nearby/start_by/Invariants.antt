use Rattle.std.proofs.Common.{◌-◌, ◌≤◌}
use Rattle.movement_core.proofs.nearby.start_by.Given as goal

abbrev pub invariant-loop-part : goal.invariant-loop-part
invariant-loop-part g l = record {
  low : l.start ≤ l.high;
  high : l.high ≤ l.gap;
}

abbrev pub decreases-loop-part : goal.decreases-loop-part
decreases-loop-part g l = l.high - l.start
