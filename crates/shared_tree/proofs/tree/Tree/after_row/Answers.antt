use Rattle.shared_tree.specs.Row.{shapes}
use Rattle.shared_tree.proofs.RowLemmas.{items_in-shown}
use Rattle.shared_tree.proofs.tree.Tree.after_row.Goals as goal

pub beside-requires-clause-fits : goal.beside-requires-clause-fits
beside-requires-clause-fits g c =
    let same = items_in-shown g.L.Leaf (shapes c.self.inside.row.items) _ c.args.self.now c.self.view_is in
    rw (c.deref.ensures.value, same) c.requires.fits

pub returns : goal.returns
returns g c =
    let same = items_in-shown g.L.Leaf (shapes c.self.inside.row.items) _ c.args.self.now c.self.view_is in
    rw (c.deref.ensures.value, same) at c.beside.ensures
