use Rattle.std.proofs.Common.{◌≡◌, ◌-◌, ◌≤◌, length, take}
use Rattle.edit_groups.proofs.retired.retired_groups.Given as goal

abbrev pub invariant-loop-group : goal.invariant-loop-group
invariant-loop-group l = record {
  so_far : l.groups.keys ≡ take l.index l.stack.retired;
  within : l.index ≤ length l.stack.retired;
}

abbrev pub decreases-loop-group : goal.decreases-loop-group
decreases-loop-group l = length l.stack.retired - l.index
