use Rattle.std.proofs.Common.{arith}
use Rattle.shared_tree.specs.Row.{items_of, shapes}
use Rattle.shared_tree.proofs.RowLemmas.{items_in-shown}
use Rattle.shared_tree.proofs.SumLemmas.{IsFit-small}
use Rattle.shared_tree.proofs.tree.Tree.get.Goals as goal

pub overflow_add-index : goal.overflow_add-index
overflow_add-index g c =
    let same = items_in-shown g.L.Leaf (shapes c.self.inside.row.items) _ c.args.self.now c.self.view_is in
    let fit = rw same at c.self.invariant.fits in
    omega (arith, c.requires, IsFit-small g.L.Leaf g.L.Sum.Summary g.met.L.Sum.Summary.adds g.met.L.Leaf.sums (items_of g.L.Leaf c.args.self.now) fit)
