use Rattle.std.proofs.Common.{◌↔◌, drop}
use Rattle.std.specs.List.{AllByRecursion}
use Rattle.rev_engine.specs.Asked.{IsKnown}
use Rattle.rev_engine.proofs.undo.are_known.Given as goal

abbrev pub invariant-loop-group : goal.invariant-loop-group
invariant-loop-group l = AllByRecursion (IsKnown l.revs) (drop l.group-index l.groups) ↔ AllByRecursion (IsKnown l.revs) l.groups
