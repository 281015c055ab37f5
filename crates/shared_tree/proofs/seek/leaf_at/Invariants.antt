use Rattle.std.specs.Prelude.{IsTrue}
use Rattle.shared_tree.specs.Places.{sum_over, IsFound}
use Rattle.shared_tree.proofs.seek.leaf_at.Given as goal

abbrev pub invariant-loop-leaf : goal.invariant-loop-leaf
invariant-loop-leaf g l = record {
  found : IsFound g.L.Leaf g.L.Sum.Summary (g.M.Measure.width l.measure) l.fn.before l.fn.node.leaves l.at l.here.leaves l.sum;
  fits : IsTrue (g.L.Sum.Summary.fits (g.L.Sum.Summary.plus l.sum (sum_over g.L.Leaf l.here.leaves)));
}

abbrev pub decreases-loop-leaf : goal.decreases-loop-leaf
decreases-loop-leaf g l = l.here.height
