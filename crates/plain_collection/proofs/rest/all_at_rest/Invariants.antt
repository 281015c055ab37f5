use Rattle.std.proofs.Common.{◌↔◌, drop}
use Rattle.std.specs.List.{AllByRecursion}
use Rattle.plain_edits.specs.Collection.{IsAtRest}
use Rattle.plain_collection.proofs.rest.all_at_rest.Given as goal

abbrev pub invariant-loop-group : goal.invariant-loop-group
invariant-loop-group l =
    AllByRecursion (IsAtRest l.history l.floor) (drop l.group-index l.groups) ↔ AllByRecursion (IsAtRest l.history l.floor) l.groups
