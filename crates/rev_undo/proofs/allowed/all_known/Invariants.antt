use Rattle.std.proofs.Common.{◌↔◌}
use Rattle.std.specs.List.{AllByRecursion}
use Rattle.rev_list.specs.Edit.{IsKnownGroup}
use Rattle.rev_undo.proofs.allowed.all_known.Given as goal

abbrev pub invariant-loop-group : goal.invariant-loop-group
invariant-loop-group l = record {
  can_next : (goal.iterator-loop-group).can_next l.group-iterator;
  is_finite : (goal.iterator-loop-group).is_finite l.group-iterator;
  so_far : AllByRecursion (IsKnownGroup l.revs) l.group-iterator ↔ AllByRecursion (IsKnownGroup l.revs) l.groups.keys;
}
