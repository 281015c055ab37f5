use Rattle.std.proofs.Common.{◌∙◌}
use Rattle.shared_tree.specs.Row.{shapes}
use Rattle.shared_tree.proofs.RowLemmas.{items_in-shown}
use Rattle.shared_tree.proofs.tree.Tree.patched.Goals as goal

pub patched_row-requires-clause-inside : goal.patched_row-requires-clause-inside
patched_row-requires-clause-inside g c =
    let same = items_in-shown g.L.Leaf (shapes c.self.inside.row.items) _ c.args.self.now c.self.view_is in
    rw (c.deref.ensures.value, same) c.requires.inside

pub patched_row-requires-clause-fits : goal.patched_row-requires-clause-fits
patched_row-requires-clause-fits g c =
    let same = items_in-shown g.L.Leaf (shapes c.self.inside.row.items) _ c.args.self.now c.self.view_is in
    let others = items_in-shown g.L.Leaf (shapes c.other.inside.row.items) _ c.args.other.now c.other.view_is in
    rw (c.deref.ensures.value, same, c.deref-2.ensures.value, others) c.requires.fits

pub of_row-requires-clause-fits : goal.of_row-requires-clause-fits
of_row-requires-clause-fits g c =
    let same = items_in-shown g.L.Leaf (shapes c.self.inside.row.items) _ c.args.self.now c.self.view_is in
    let others = items_in-shown g.L.Leaf (shapes c.other.inside.row.items) _ c.args.other.now c.other.view_is in
    let row = rw (c.in-Some.is, c.deref.ensures.value, same, c.deref-2.ensures.value, others) at c.in_ok-row.ensures in
    rw row.same c.requires.fits

pub returns-in_ok-of_row-in-Some : goal.returns-in_ok-of_row-in-Some
returns-in_ok-of_row-in-Some g c =
    let same = items_in-shown g.L.Leaf (shapes c.self.inside.row.items) _ c.args.self.now c.self.view_is in
    let others = items_in-shown g.L.Leaf (shapes c.other.inside.row.items) _ c.args.other.now c.other.view_is in
    let row = rw (c.in-Some.is, c.deref.ensures.value, same, c.deref-2.ensures.value, others) at c.in_ok-row.ensures in
    c.in_ok-of_row-in-Some.ensures ∙ row.same
