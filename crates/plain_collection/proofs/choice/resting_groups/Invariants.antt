use Rattle.std.proofs.Common.{◌≡◌, ◌++◌, drop}
use Rattle.plain_edits.specs.Collection.{resting_groups}
use Rattle.plain_collection.proofs.choice.resting_groups.Given as goal

abbrev pub invariant-loop-group : goal.invariant-loop-group
invariant-loop-group l =
    l.groups ++ resting_groups l.history (drop l.group-index l.retired) l.floor ≡ resting_groups l.history l.retired l.floor
