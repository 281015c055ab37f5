use Rattle.std.proofs.Common.{◌↔◌}
use Rattle.std.specs.List.{AllByRecursion}
use Rattle.rev_engine.specs.Asked.{IsKnown}
use Rattle.rev_engine.proofs.undo.is_set_known.Given as goal

abbrev pub invariant-loop-group : goal.invariant-loop-group
invariant-loop-group l = record {
  can_next : (goal.iterator-loop-group).can_next l.group-iterator;
  is_finite : (goal.iterator-loop-group).is_finite l.group-iterator;
  so_far : AllByRecursion (IsKnown l.revs) l.group-iterator ↔ AllByRecursion (IsKnown l.revs) l.groups.keys;
}
