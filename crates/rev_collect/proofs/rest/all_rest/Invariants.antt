use Rattle.std.proofs.Common.{◌≡◌, ◌↔◌, false}
use Rattle.std.specs.List.{AllByRecursion}
use Rattle.plain_text.specs.Numbers.{has}
use Rattle.rev_collect.proofs.rest.all_rest.Given as goal

abbrev pub invariant-loop-group : goal.invariant-loop-group
invariant-loop-group l = record {
  can_next : (goal.iterator-loop-group).can_next l.group-iterator;
  is_finite : (goal.iterator-loop-group).is_finite l.group-iterator;
  so_far : AllByRecursion (λ group. has l.moving group ≡ false) l.group-iterator ↔ AllByRecursion (λ group. has l.moving group ≡ false) l.groups.keys;
}
