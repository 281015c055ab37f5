use Rattle.std.proofs.Common.{◌-◌, ◌≤◌}
use Rattle.movement_core.proofs.nearby.end_past.Given as goal

abbrev pub invariant-loop-part : goal.invariant-loop-part
invariant-loop-part g l = record {
  low : l.gap ≤ l.low;
  high : l.low ≤ l.end;
}

abbrev pub decreases-loop-part : goal.decreases-loop-part
decreases-loop-part g l = l.end - l.low
