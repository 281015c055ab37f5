use Rattle.shared_tree.specs.Row.{shapes}
use Rattle.shared_tree.proofs.RowLemmas.{items_in-shown}
use Rattle.shared_tree.proofs.tree.Tree.aligned.Goals as goal

pub after_row-requires-clause-fits : goal.after_row-requires-clause-fits
after_row-requires-clause-fits g c =
    let same = items_in-shown g.L.Leaf (shapes c.self.inside.row.items) _ c.args.self.now c.self.view_is in
    rw (c.deref.ensures.value, same) c.requires

pub returns : goal.returns
returns g c =
    let same = items_in-shown g.L.Leaf (shapes c.self.inside.row.items) _ c.args.self.now c.self.view_is in
    rw (c.deref.ensures.value, same) at c.after_row.ensures
