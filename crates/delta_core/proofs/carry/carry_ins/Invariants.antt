use Rattle.std.proofs.Common.{◌≡◌, ◌+◌, ◌++◌, length}
use Rattle.subset_runs.specs.Subset.{count}
use Rattle.delta_core.specs.Carry.{carried}
use Rattle.delta_core.proofs.carry.carry_ins.Given as goal

abbrev pub invariant-loop-other : goal.invariant-loop-other
invariant-loop-other l = record {
  so_far : l.out ++ carried l.after l.own l.other ≡ carried l.after l.ins l.later;
  base : length l.own + count l.other ≡ length l.other + count l.own;
  reached : length l.out + (length l.own + count l.other) ≡ length l.ins + count l.later;
}

abbrev pub decreases-loop-other : goal.decreases-loop-other
decreases-loop-other l = length l.own + length l.other
