use Rattle.std.proofs.Common.{◌-◌, ◌≤◌, length, take}
use Rattle.session_step.specs.Views.{HaveOtherNames}
use Rattle.session_step.proofs.opened.place_of.Given as goal

abbrev pub invariant-loop-at : goal.invariant-loop-at
invariant-loop-at l = (l.at ≤ length l.held) × HaveOtherNames l.name (take l.at l.held)

abbrev pub decreases-loop-at : goal.decreases-loop-at
decreases-loop-at l = length l.held - l.at
