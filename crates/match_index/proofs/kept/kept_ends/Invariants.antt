use Rattle.std.proofs.Common.{length}
use Rattle.delta_core.specs.UnitStep.{steps_of}
use Rattle.match_index.proofs.KeptLemmas.{IsKeeping}
use Rattle.match_index.proofs.kept.kept_ends.Given as goal

abbrev pub invariant-loop-back : goal.invariant-loop-back
invariant-loop-back l = IsKeeping (steps_of l.units) l.walk l.front l.back

abbrev pub decreases-loop-back : goal.decreases-loop-back
decreases-loop-back l = length l.walk
