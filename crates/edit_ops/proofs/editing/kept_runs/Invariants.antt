use Rattle.std.proofs.Common.{◌≡◌, ◌++◌, drop}
use Rattle.edit_ops.specs.Inner.{kept_from}
use Rattle.edit_ops.proofs.editing.kept_runs.Given as goal

abbrev pub invariant-loop-replacement : goal.invariant-loop-replacement
invariant-loop-replacement l = l.kept ++ kept_from l.base l.at (drop l.replacement-index l.replacements) ≡ kept_from l.base 0 l.replacements
