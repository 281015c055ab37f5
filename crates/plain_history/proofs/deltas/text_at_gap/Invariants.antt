use Rattle.std.proofs.Common.{◌≡◌, ◌++◌, drop}
use Rattle.plain_edits.specs.Delta.{text_at_gap}
use Rattle.plain_history.proofs.deltas.text_at_gap.Given as goal

abbrev pub invariant-loop-added : goal.invariant-loop-added
invariant-loop-added l = l.made ++ text_at_gap (drop l.added-index l.adds) l.gap ≡ text_at_gap l.adds l.gap
