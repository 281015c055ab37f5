use Rattle.std.proofs.Common.{◌-◌, ◌≤◌}
use Rattle.std.specs.Prelude.{min}
use Rattle.movement_core.proofs.words.run_left.Given as goal

abbrev pub invariant-loop-part : goal.invariant-loop-part
invariant-loop-part g l = record {
  inside : l.len ≤ l.gap;
  some : min 1 l.gap ≤ l.len;
}

abbrev pub decreases-loop-part : goal.decreases-loop-part
decreases-loop-part g l = l.gap - l.len
