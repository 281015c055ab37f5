use Rattle.std.proofs.Common.{length}
use Rattle.subset_runs.specs.Inner.{IsRest}
use Rattle.subset_runs.proofs.walk.rest_after.Given as goal

abbrev pub invariant-loop-rest : goal.invariant-loop-rest
invariant-loop-rest l = IsRest l.runs l.rest l.at

abbrev pub decreases-loop-rest : goal.decreases-loop-rest
decreases-loop-rest l = length l.rest
