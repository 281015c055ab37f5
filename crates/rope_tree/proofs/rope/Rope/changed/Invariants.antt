use Rattle.std.proofs.Common.{length}
use Rattle.delta_core.specs.Units.{text_after}
use Rattle.rope_tree.proofs.EditLemmas.{IsUnderway}
use Rattle.rope_tree.proofs.rope.Rope.changed.Given as goal

abbrev pub invariant-loop-walk : goal.invariant-loop-walk
invariant-loop-walk l = IsUnderway l.rope l.at l.walk (text_after l.units l.self)

abbrev pub decreases-loop-walk : goal.decreases-loop-walk
decreases-loop-walk l = length l.walk
