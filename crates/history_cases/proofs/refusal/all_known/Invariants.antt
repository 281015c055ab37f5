use Rattle.std.proofs.Common.{◌↔◌, drop}
use Rattle.std.specs.List.{AllByRecursion}
use Rattle.rev_undo.specs.Allowed.{HasEdit}
use Rattle.history_cases.proofs.refusal.all_known.Given as goal

abbrev pub invariant-loop-group : goal.invariant-loop-group
invariant-loop-group l = AllByRecursion (HasEdit l.plain) (drop l.group-index l.groups) ↔ AllByRecursion (HasEdit l.plain) l.groups
