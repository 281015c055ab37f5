use Rattle.std.proofs.Common.{ap, sym, ◌∙◌}
use Rattle.shared_tree.specs.Row.{items_of, shapes}
use Rattle.shared_tree.proofs.RowLemmas.{items_in-by_leaves, leaves-shown}
use Rattle.shared_tree.proofs.node.Node.kids.Goals as goal

pub returns-in-Inner-clause-leaves : goal.returns-in-Inner-clause-leaves
returns-in-Inner-clause-leaves g c =
    rw c.deref.ensures.value (leaves-shown g.L.Leaf (shapes c.in-Inner.kids.items) _ c.args.self.now (rw c.in-Inner.is at c.self.view_is))

pub returns-in-Inner-clause-same : goal.returns-in-Inner-clause-same
returns-in-Inner-clause-same g c =
    rw c.deref.ensures.value (sym (items_in-by_leaves g.L.Leaf (shapes c.in-Inner.kids.items)) ∙ ap (items_of g.L.Leaf) (rw c.in-Inner.is at c.self.view_is))
