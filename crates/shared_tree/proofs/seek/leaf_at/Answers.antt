use Rattle.shared_tree.proofs.PlaceLemmas.{found_through, found_whole}
use Rattle.shared_tree.proofs.seek.leaf_at.Goals as goal

pub loop-leaf-init : goal.loop-leaf-init
loop-leaf-init g c = record {
  found = found_whole g.L.Leaf g.L.Sum.Summary g.met.L.Sum.Summary.adds g.met.L.Leaf.sums _ _ _ _ c.requires.passed c.requires.reached;
  fits = c.requires.fits;
}

pub loop-leaf-preserved : goal.loop-leaf-preserved
loop-leaf-preserved g c = record {
  found = found_through g.L.Leaf g.L.Sum.Summary g.met.L.Sum.Summary.adds g.met.L.Leaf.sums _ _ _ _ _ _ _ _ c.loop-leaf.invariant.found c.child-all.ensures.found;
  fits = c.child-all.ensures.fits;
}
