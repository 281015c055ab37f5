use Rattle.std.proofs.Common.{◌≤◌}
use Rattle.plain_edits.specs.History.{head}
use Rattle.rev_collect.specs.Present.{ArePresent}
use Rattle.rev_collect.proofs.present.present_edits.Given as goal

abbrev pub invariant-loop-at : goal.invariant-loop-at
invariant-loop-at l = record {
  reached : l.revs.floor ≤ l.at;
  known : l.at ≤ head l.revs;
  are : ArePresent l.revs l.at l.edits.items l.later;
}

abbrev pub decreases-loop-at : goal.decreases-loop-at
decreases-loop-at l = l.at
