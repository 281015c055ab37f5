use Rattle.std.proofs.Common.{◌≡◌, ◌+◌, ◌≤◌, ◌++◌, length}
use Rattle.subset_runs.specs.Subset.{shrink}
use Rattle.subset_runs.proofs.subset.shrunk.Given as goal

abbrev pub invariant-loop-rest : goal.invariant-loop-rest
invariant-loop-rest l = record {
  so_far : l.out ++ shrink l.rest l.ahead ≡ shrink l.flags l.by;
  same_length : length l.rest ≡ length l.ahead;
  reached : length l.out + length l.ahead ≤ length l.by;
}

abbrev pub decreases-loop-rest : goal.decreases-loop-rest
decreases-loop-rest l = length l.ahead
