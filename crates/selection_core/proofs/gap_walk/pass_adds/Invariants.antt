use Rattle.std.proofs.Common.{length, ◌-◌}
use Rattle.selection_core.specs.Inner.{HasPassedAdds, gaps_left}
use Rattle.selection_core.proofs.gap_walk.pass_adds.Given as goal

abbrev pub invariant-loop-parts : goal.invariant-loop-parts
invariant-loop-parts l = HasPassedAdds l.units (gaps_left l.after l.gap) (record { parts = l.parts; count = l.count })

abbrev pub decreases-loop-parts : goal.decreases-loop-parts
decreases-loop-parts l = length l.adds - l.parts
