use Rattle.std.proofs.Common.{length}
use Rattle.delta_core.specs.Inner.{steps_of}
use Rattle.delta_core.proofs.StepLemmas.{IsSplitting}
use Rattle.delta_core.proofs.factoring.factor.Given as goal

abbrev pub invariant-loop-walk : goal.invariant-loop-walk
invariant-loop-walk l = IsSplitting l.dropped l.inserted l.walk (steps_of l.units)

abbrev pub decreases-loop-walk : goal.decreases-loop-walk
decreases-loop-walk l = length l.walk
