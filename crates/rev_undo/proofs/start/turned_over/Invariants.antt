use Rattle.std.proofs.Common.{ℕ, List, drop}
use Rattle.rev_undo.specs.Start.{TurnsFirst}
use Rattle.rev_undo.proofs.start.turned_over.Given as goal

-- what the groups that are left still have to turn
abbrev pub invariant-loop-group : goal.invariant-loop-group
invariant-loop-group l = (after : List ℕ) → TurnsFirst l.revs (drop l.group-index l.groups) l.made after → TurnsFirst l.revs l.groups l.initial.made after
