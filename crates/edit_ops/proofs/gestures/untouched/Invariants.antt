use Rattle.std.proofs.Common.{◌≡◌, ◌++◌, drop}
use Rattle.std.specs.Prelude.{not}
use Rattle.std.specs.List.{filter}
use Rattle.edit_ops.specs.Regions.{has_gap}
use Rattle.edit_ops.proofs.gestures.untouched.Given as goal

abbrev pub invariant-loop-region : goal.invariant-loop-region
invariant-loop-region l =
    l.left ++ filter (λ region. not (has_gap l.gap region)) (drop l.region-index l.region-items) ≡ filter (λ region. not (has_gap l.gap region)) l.region-items
