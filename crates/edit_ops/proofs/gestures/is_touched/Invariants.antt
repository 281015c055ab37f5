use Rattle.std.proofs.Common.{◌≡◌, drop}
use Rattle.std.specs.List.{list_any}
use Rattle.edit_ops.specs.Regions.{has_gap}
use Rattle.edit_ops.proofs.gestures.is_touched.Given as goal

abbrev pub invariant-loop-region : goal.invariant-loop-region
invariant-loop-region l = list_any (has_gap l.gap) (drop l.region-index l.region-items) ≡ list_any (has_gap l.gap) l.region-items
