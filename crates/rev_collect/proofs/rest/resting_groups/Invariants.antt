use Rattle.std.proofs.Common.{◌≡◌, ◌++◌}
use Rattle.plain_text.specs.Numbers.{IsRising}
use Rattle.plain_edits.specs.Collection.{resting_groups}
use Rattle.rev_collect.proofs.rest.resting_groups.Given as goal

abbrev pub invariant-loop-group : goal.invariant-loop-group
invariant-loop-group l = record {
  can_next : (goal.iterator-loop-group).can_next l.group-iterator;
  is_finite : (goal.iterator-loop-group).is_finite l.group-iterator;
  rising : IsRising (l.groups.keys ++ l.group-iterator);
  so_far : l.groups.keys ++ resting_groups l.revs l.group-iterator l.floor ≡ resting_groups l.revs l.retired.keys l.floor;
}
