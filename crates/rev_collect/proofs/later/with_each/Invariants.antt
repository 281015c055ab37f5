use Rattle.std.proofs.Common.{◌≤◌, ◌-◌}
use Rattle.plain_edits.specs.History.{head}
use Rattle.rev_collect.specs.Later.{IsLeftUntil}
use Rattle.rev_collect.proofs.later.with_each.Given as goal

abbrev pub invariant-loop-at : goal.invariant-loop-at
invariant-loop-at l = record {
  low : l.floor ≤ l.at;
  high : l.at ≤ head l.revs;
  so_far : IsLeftUntil l.revs l.floor l.groups.keys l.at l.left l.dropped;
}

abbrev pub decreases-loop-at : goal.decreases-loop-at
decreases-loop-at l = head l.revs - l.at
