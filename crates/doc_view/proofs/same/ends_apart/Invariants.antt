use Rattle.std.proofs.Common.{◌≡◌, ◌-◌, true, length, take}
use Rattle.doc_view.specs.Told.{are_same_ends}
use Rattle.doc_view.proofs.same.ends_apart.Given as goal

abbrev pub invariant-loop-index : goal.invariant-loop-index
invariant-loop-index l = are_same_ends (take l.index l.regions) (take l.index l.others) ≡ true

abbrev pub decreases-loop-index : goal.decreases-loop-index
decreases-loop-index l = length l.regions - l.index
