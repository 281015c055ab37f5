use Rattle.std.proofs.Common.{◌≡◌, ◌+◌, ◌++◌, length}
use Rattle.subset_runs.specs.Subset.{expand_as, count}
use Rattle.subset_runs.proofs.subset.expanded.Given as goal

abbrev pub invariant-loop-rest : goal.invariant-loop-rest
invariant-loop-rest l = record {
  so_far : l.out ++ expand_as l.inside l.rest l.ahead ≡ expand_as l.inside l.flags l.by;
  same_outside : length l.rest + count l.ahead ≡ length l.ahead;
  reached : length l.out + length l.ahead ≡ length l.by;
}

abbrev pub decreases-loop-rest : goal.decreases-loop-rest
decreases-loop-rest l = length l.ahead
