use Rattle.std.proofs.Common.{◌≡◌, ◌++◌, drop, map}
use Rattle.edit_ops.specs.Replacements.{replaced_by}
use Rattle.edit_ops.proofs.regions.replacements_of.Given as goal

abbrev pub invariant-loop-region : goal.invariant-loop-region
invariant-loop-region l = l.list ++ map (replaced_by l.text) (drop l.region-index l.region-items) ≡ map (replaced_by l.text) l.region-items
