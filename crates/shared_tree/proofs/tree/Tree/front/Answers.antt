use Rattle.shared_tree.specs.Row.{shapes}
use Rattle.shared_tree.proofs.RowLemmas.{items_in-shown}
use Rattle.shared_tree.proofs.tree.Tree.front.Goals as goal

pub front_of-requires-clause-inside : goal.front_of-requires-clause-inside
front_of-requires-clause-inside g c =
    let same = items_in-shown g.L.Leaf (shapes c.self.inside.row.items) _ c.args.self.now c.self.view_is in
    rw (c.deref.ensures.value, same) c.requires

pub returns : goal.returns
returns g c =
    let same = items_in-shown g.L.Leaf (shapes c.self.inside.row.items) _ c.args.self.now c.self.view_is in
    rw (c.deref.ensures.value, same) at c.front_of.ensures
