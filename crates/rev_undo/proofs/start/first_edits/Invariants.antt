use Rattle.std.proofs.Common.{ℕ, List, [], drop}
use Rattle.rev_undo.specs.Start.{TurnsFirst}
use Rattle.rev_undo.proofs.start.first_edits.Given as goal

-- what the groups that are left still have to turn
abbrev pub invariant-loop-index : goal.invariant-loop-index
invariant-loop-index l = (after : List ℕ) → TurnsFirst l.revs (drop l.index l.groups) l.firsts after → TurnsFirst l.revs l.groups [] after
