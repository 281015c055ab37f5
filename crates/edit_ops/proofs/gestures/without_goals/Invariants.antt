use Rattle.std.proofs.Common.{◌≡◌, ◌++◌, drop, map}
use Rattle.edit_ops.specs.Regions.{without_goal}
use Rattle.edit_ops.proofs.gestures.without_goals.Given as goal

abbrev pub invariant-loop-region : goal.invariant-loop-region
invariant-loop-region l = l.list ++ map without_goal (drop l.region-index l.region-items) ≡ map without_goal l.region-items
