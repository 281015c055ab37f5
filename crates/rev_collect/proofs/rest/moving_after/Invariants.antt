use Rattle.std.proofs.Common.{◌≤◌}
use Rattle.plain_edits.specs.History.{head}
use Rattle.rev_collect.specs.Inner.{AreMoving}
use Rattle.rev_collect.proofs.rest.moving_after.Given as goal

abbrev pub invariant-loop-at : goal.invariant-loop-at
invariant-loop-at l = record {
  reached : l.floor ≤ l.at;
  known : l.at ≤ head l.revs;
  moving : AreMoving l.revs l.at l.moving;
}

abbrev pub decreases-loop-at : goal.decreases-loop-at
decreases-loop-at l = l.at
