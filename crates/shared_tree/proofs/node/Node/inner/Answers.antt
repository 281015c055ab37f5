use Rattle.shared_tree.proofs.SumLemmas.{sound_above}
use Rattle.shared_tree.proofs.node.Node.inner.Goals as goal

pub invariant_of-result : goal.invariant_of-result
invariant_of-result g c =
    sound_above g.L.Leaf g.L.Sum.Summary g.met.L.Sum.Summary.adds g.met.L.Leaf.sums c.args.height _ c.args.kids c.requires.kids c.requires.fits (rw c.deref.ensures.value at c.sum_of-summary.ensures)
