use Rattle.shared_tree.proofs.PlaceLemmas.{all_from_start}
use Rattle.shared_tree.proofs.walk.Leaves.new.Goals as goal

pub returns : goal.returns
returns g c = all_from_start g.L.Leaf g.L.Sum.Summary g.met.L.Sum.Summary.adds g.met.L.Leaf.sums c.args.tree.now.leaves
