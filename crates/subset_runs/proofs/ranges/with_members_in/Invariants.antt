use Rattle.std.proofs.Common.{drop}
use Rattle.subset_runs.proofs.RangeLemmas.{IsFilled}
use Rattle.subset_runs.proofs.ranges.with_members_in.Given as goal

abbrev pub invariant-loop-range : goal.invariant-loop-range
invariant-loop-range l = IsFilled l.ranges (drop l.range-index l.ranges) l.len l.out
