use Rattle.std.proofs.Common.{length}
use Rattle.delta_core.specs.UnitStep.{steps_of}
use Rattle.line_index.specs.Inner.{IsSeenUpTo}
use Rattle.line_index.proofs.touched.changed_run.Given as goal

abbrev pub invariant-loop-walk : goal.invariant-loop-walk
invariant-loop-walk l = IsSeenUpTo (steps_of l.units) l.walk l.seen.changed l.seen.at

abbrev pub decreases-loop-walk : goal.decreases-loop-walk
decreases-loop-walk l = length l.walk
