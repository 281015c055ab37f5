use Rattle.std.proofs.Common.{◌≤◌}
use Rattle.plain_edits.specs.History.{head}
use Rattle.rev_collect.proofs.FloorLemmas.{AreFrom, AreUnclean}
use Rattle.rev_collect.proofs.floors.clean_floor.Given as goal

abbrev pub invariant-loop-at : goal.invariant-loop-at
invariant-loop-at l = record {
  reached : l.revs.floor ≤ l.at;
  known : l.at ≤ head l.revs;
  within : l.least ≤ l.most;
  bases : AreFrom l.revs l.most l.at l.least;
  above : AreUnclean l.revs l.at l.most;
}

abbrev pub decreases-loop-at : goal.decreases-loop-at
decreases-loop-at l = l.at
