use Rattle.std.proofs.Common.{◌<◌, length, arith}
use Rattle.shared_tree.specs.Row.{items_of, shapes}
use Rattle.shared_tree.proofs.RowLemmas.{items_in-shown}
use Rattle.shared_tree.proofs.tree.Tree.back.Goals as goal

pub back_of-requires-clause-inside : goal.back_of-requires-clause-inside
back_of-requires-clause-inside g c =
    let same = items_in-shown g.L.Leaf (shapes c.self.inside.row.items) _ c.args.self.now c.self.view_is in
    let inside : c.args.from < length (items_of g.L.Leaf c.args.self.now) = omega arith in
    rw (c.deref.ensures.value, same) inside

pub returns : goal.returns
returns g c =
    let same = items_in-shown g.L.Leaf (shapes c.self.inside.row.items) _ c.args.self.now c.self.view_is in
    rw (c.deref.ensures.value, same) at c.back_of.ensures
