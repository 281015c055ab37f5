use Rattle.std.proofs.Common.{ℕ, ◌+◌, drop}
use Rattle.subset_runs.specs.Ranges.{AreGood, IsFirstFault}
use Rattle.subset_runs.proofs.ranges.first_fault.Given as goal

abbrev pub invariant-loop-index : goal.invariant-loop-index
invariant-loop-index l = record {
  fault : (i : ℕ) → IsFirstFault l.len l.low (drop l.index l.ranges) i → IsFirstFault l.len 0 l.ranges (l.index + i);
  good : AreGood l.len l.low (drop l.index l.ranges) → AreGood l.len 0 l.ranges;
}
