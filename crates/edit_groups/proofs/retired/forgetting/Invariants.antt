use Rattle.std.proofs.Common.{◌≡◌, fold}
use Rattle.undo_groups.specs.Groups.{forgotten}
use Rattle.edit_groups.proofs.ForgetLemmas.{AreLeft}
use Rattle.edit_groups.proofs.retired.forgetting.Given as goal

abbrev pub invariant-loop-group : goal.invariant-loop-group
invariant-loop-group l = record {
  can_next : (goal.iterator-loop-group).can_next l.group-iterator;
  is_finite : (goal.iterator-loop-group).is_finite l.group-iterator;
  left : AreLeft l.made l.group-iterator;
  so_far : fold forgotten l.made l.group-iterator ≡ fold forgotten l.stack l.groups.keys;
}
