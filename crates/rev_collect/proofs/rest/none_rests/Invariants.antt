use Rattle.std.proofs.Common.{◌≡◌, ◌≤◌, ℕ, []}
use Rattle.plain_edits.specs.Collection.{resting_groups}
use Rattle.rev_collect.proofs.rest.none_rests.Given as goal

abbrev pub invariant-loop-group : goal.invariant-loop-group
invariant-loop-group l = record {
  can_next : (goal.iterator-loop-group).can_next l.group-iterator;
  is_finite : (goal.iterator-loop-group).is_finite l.group-iterator;
  so_far : ((floor : ℕ) → floor ≤ l.most → resting_groups l.revs l.group-iterator floor ≡ []) →
      (floor : ℕ) → floor ≤ l.most → resting_groups l.revs l.groups.keys floor ≡ [];
}
