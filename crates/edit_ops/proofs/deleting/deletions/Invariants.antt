use Rattle.std.proofs.Common.{◌≡◌, ◌++◌, drop, map}
use Rattle.edit_ops.specs.Replacements.{deletion_of}
use Rattle.edit_ops.proofs.deleting.deletions.Given as goal

abbrev pub invariant-loop-range : goal.invariant-loop-range
invariant-loop-range l = l.list ++ map deletion_of (drop l.range-index l.range-items) ≡ map deletion_of l.range-items
