use Rattle.std.proofs.Common.{◌≡◌, ◌+◌, ◌++◌, length}
use Rattle.subset_runs.specs.Inner.{is_kept}
use Rattle.subset_runs.specs.Subset.{at_each}
use Rattle.subset_runs.proofs.subset.combined.Given as goal

abbrev pub invariant-loop-ahead : goal.invariant-loop-ahead
invariant-loop-ahead l = record {
  so_far : l.out ++ at_each (is_kept l.keep) l.ahead l.other ≡ at_each (is_kept l.keep) l.first l.second;
  same_length : length l.ahead ≡ length l.other;
  reached : length l.out + length l.ahead ≡ length l.first;
}

abbrev pub decreases-loop-ahead : goal.decreases-loop-ahead
decreases-loop-ahead l = length l.ahead
