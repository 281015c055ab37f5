use Rattle.shared_tree.specs.Row.{shapes}
use Rattle.shared_tree.proofs.RowLemmas.{full-shown}
use Rattle.shared_tree.proofs.tree.Tree.leaves.Goals as goal

pub new-requires : goal.new-requires
new-requires g c = full-shown g.L.Leaf c.self.inside.height _ (shapes c.self.inside.row.items) c.args.self.now c.self.invariant.levels c.self.view_is
