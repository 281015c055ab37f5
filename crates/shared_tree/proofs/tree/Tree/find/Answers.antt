use Rattle.shared_tree.proofs.PlaceLemmas.{found_through}
use Rattle.shared_tree.proofs.tree.Tree.find.Goals as goal

pub returns : goal.returns
returns g c =
    found_through g.L.Leaf g.L.Sum.Summary g.met.L.Sum.Summary.adds g.met.L.Leaf.sums _ _ _ _ _ _ _ _ c.top-before.ensures.found c.leaf_at.ensures
