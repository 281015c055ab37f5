use Rattle.std.proofs.Common.{◌≡◌, map, take}
use Rattle.edit_ops.specs.Regions.{without_goal}
use Rattle.doc_view.proofs.view.without_goals.Given as goal

abbrev pub invariant-loop-region : goal.invariant-loop-region
invariant-loop-region l = l.regions ≡ map without_goal (take l.region-index l.sel.regions)
