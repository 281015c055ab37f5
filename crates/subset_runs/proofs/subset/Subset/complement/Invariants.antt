use Rattle.std.proofs.Common.{◌≡◌, ◌+◌, ◌++◌, length}
use Rattle.subset_runs.specs.Subset.{complement}
use Rattle.subset_runs.proofs.subset.Subset.complement.Given as goal

abbrev pub invariant-loop-ahead : goal.invariant-loop-ahead
invariant-loop-ahead l = record {
  so_far : l.out ++ complement l.ahead ≡ complement l.self;
  reached : length l.out + length l.ahead ≡ length l.self;
}

abbrev pub decreases-loop-ahead : goal.decreases-loop-ahead
decreases-loop-ahead l = length l.ahead
