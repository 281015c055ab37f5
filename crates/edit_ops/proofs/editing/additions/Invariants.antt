use Rattle.std.proofs.Common.{◌≡◌, ◌++◌}
use Rattle.std.specs.Vec.Iter.{into_iter_items}
use Rattle.edit_ops.specs.Inner.{additions_of}
use Rattle.edit_ops.proofs.editing.additions.Given as goal

abbrev pub invariant-loop-replacement : goal.invariant-loop-replacement
invariant-loop-replacement l = l.added ++ additions_of (into_iter_items l.replacement-iterator) ≡ additions_of l.fn.replacements
