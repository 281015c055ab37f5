use Rattle.std.proofs.Common.{◌≡◌, drop}
use Rattle.doc_view.specs.Inner.{has_goal}
use Rattle.doc_view.proofs.same.has_goal.Given as goal

abbrev pub invariant-loop-region : goal.invariant-loop-region
invariant-loop-region l = has_goal (drop l.region-index l.regions) ≡ has_goal l.regions
