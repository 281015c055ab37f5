use Rattle.shared_tree.proofs.SumLemmas.{part_fits}
use Rattle.shared_tree.proofs.patch.cut.Goals as goal

pub tip-requires-clause-fits : goal.tip-requires-clause-fits
tip-requires-clause-fits g c =
    rw c.in_ok-part.ensures (part_fits g.L.Leaf g.L.Sum.Summary g.met.L.Sum.Summary.adds g.met.L.Leaf.sums (g.L.Leaf.items c.args.leaf.now) c.args.from _ c.requires.fits)
