use Rattle.std.proofs.Common.{length}
use Rattle.delta_core.specs.Units.{text_after}
use Rattle.delta_core.proofs.ForCallers.{IsMaking}
use Rattle.rope_tree.proofs.rope.Rope.gathered.Given as goal

abbrev pub invariant-loop-walk : goal.invariant-loop-walk
invariant-loop-walk l = IsMaking l.made l.walk l.rest (text_after l.units l.self)

abbrev pub decreases-loop-walk : goal.decreases-loop-walk
decreases-loop-walk l = length l.walk
