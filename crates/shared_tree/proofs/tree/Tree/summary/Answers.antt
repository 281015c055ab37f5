use Rattle.shared_tree.specs.Row.{shapes}
use Rattle.shared_tree.proofs.RowLemmas.{items_in-shown}
use Rattle.shared_tree.proofs.tree.Tree.summary.Goals as goal

pub returns-clause-sum : goal.returns-clause-sum
returns-clause-sum g c =
    let same = items_in-shown g.L.Leaf (shapes c.self.inside.row.items) _ c.args.self.now c.self.view_is in
    rw (c.deref.ensures.value, same) at c.sum_of.ensures

pub returns-clause-fits : goal.returns-clause-fits
returns-clause-fits g c =
    let same = items_in-shown g.L.Leaf (shapes c.self.inside.row.items) _ c.args.self.now c.self.view_is in
    rw same at c.self.invariant.fits
