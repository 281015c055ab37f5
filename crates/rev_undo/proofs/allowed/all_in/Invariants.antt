use Rattle.std.proofs.Common.{◌↔◌, drop}
use Rattle.std.specs.List.{AllByRecursion}
use Rattle.rev_undo.specs.Allowed.{IsIn}
use Rattle.rev_undo.proofs.allowed.all_in.Given as goal

abbrev pub invariant-loop-index : goal.invariant-loop-index
invariant-loop-index l =
    AllByRecursion (IsIn l.revs l.groups.keys) (drop l.index l.undone) ↔ AllByRecursion (IsIn l.revs l.groups.keys) l.undone
