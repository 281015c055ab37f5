use Rattle.shared_tree.proofs.SumLemmas.{part_fits}
use Rattle.shared_tree.proofs.cut.leaf_part.Goals as goal

pub of_leaf-requires-clause-fits : goal.of_leaf-requires-clause-fits
of_leaf-requires-clause-fits g c =
    rw c.in_ok-part.ensures (part_fits g.L.Leaf g.L.Sum.Summary g.met.L.Sum.Summary.adds g.met.L.Leaf.sums (g.L.Leaf.items c.args.leaf.now) c.args.from _ c.requires.fits)
