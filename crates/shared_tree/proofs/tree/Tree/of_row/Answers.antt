use Rattle.std.proofs.Common.{◌≤◌, length, arith, ◌∙◌}
use Rattle.std.specs.Arc.{arc_value}
use Rattle.std.proofs.lemmas.List.{length-map}
use Rattle.shared_tree.specs.Row.{shapes}
use Rattle.shared_tree.proofs.RowLemmas.{items_in-by_leaves}
use Rattle.shared_tree.proofs.SumLemmas.{row_is_low}
use Rattle.shared_tree.proofs.tree.Tree.of_row.Goals as goal

pub returns-then-len-le8 : goal.returns-then-len-le8
returns-then-len-le8 g c = items_in-by_leaves g.L.Leaf (shapes c.args.row.items)

pub overflow_add-result : goal.overflow_add-result
overflow_add-result g c =
    let some : 1 ≤ length (shapes c.args.row.items) = omega (arith, length-map c.args.row.items arc_value) in
    omega (arith, row_is_low g.L.Leaf g.L.Sum.Summary g.met.L.Sum.Summary.adds g.met.L.Leaf.sums c.args.height (shapes c.args.row.items) c.requires.levels some c.requires.fits)

pub overflow_add-height : goal.overflow_add-height
overflow_add-height g c =
    let some : 1 ≤ length (shapes c.args.row.items) = omega (arith, length-map c.args.row.items arc_value) in
    omega (arith, row_is_low g.L.Leaf g.L.Sum.Summary g.met.L.Sum.Summary.adds g.met.L.Leaf.sums c.args.height (shapes c.args.row.items) c.requires.levels some c.requires.fits)

pub returns : goal.returns
returns g c = items_in-by_leaves g.L.Leaf (shapes c.in_ok-grouped.field-0.items) ∙ c.in_ok-grouped.ensures.row.same
