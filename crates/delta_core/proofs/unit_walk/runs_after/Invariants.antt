use Rattle.std.proofs.Common.{length}
use Rattle.delta_core.specs.Inner.{IsRestOfKept}
use Rattle.delta_core.proofs.unit_walk.runs_after.Given as goal

abbrev pub invariant-loop-rest : goal.invariant-loop-rest
invariant-loop-rest l = IsRestOfKept l.runs l.rest l.at

abbrev pub decreases-loop-rest : goal.decreases-loop-rest
decreases-loop-rest l = length l.rest
