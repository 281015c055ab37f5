use Rattle.std.proofs.Common.{length, ◌-◌}
use Rattle.selection_core.specs.Inner.{HasPassedRuns}
use Rattle.selection_core.proofs.gap_walk.pass_runs.Given as goal

abbrev pub invariant-loop-parts : goal.invariant-loop-parts
invariant-loop-parts l = HasPassedRuns l.units l.gap (record { parts = l.parts; count = l.count })

abbrev pub decreases-loop-parts : goal.decreases-loop-parts
decreases-loop-parts l = length l.runs - l.parts
