use Rattle.std.proofs.Common.{◌≡◌, drop}
use Rattle.shared_tree.specs.Row.{items_in, shapes}
use Rattle.shared_tree.proofs.row.sum_of.Given as goal

abbrev pub invariant-loop-node : goal.invariant-loop-node
invariant-loop-node g l =
    g.L.Sum.Summary.plus l.sum (g.L.Leaf.summed (items_in g.L.Leaf (shapes (drop l.node-index l.row)))) ≡ g.L.Leaf.summed (items_in g.L.Leaf (shapes l.row))
