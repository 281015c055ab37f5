use Rattle.std.proofs.Common.{◌≤◌, length, arith}
use Rattle.std.proofs.lemmas.List.{length-map}
use Rattle.std.specs.Arc.{arc_value}
use Rattle.shared_tree.specs.Row.{shapes}
use Rattle.shared_tree.proofs.RowLemmas.{full-shown, tall}
use Rattle.shared_tree.proofs.SumLemmas.{row_is_low}
use Rattle.shared_tree.proofs.tree.Tree.height.Goals as goal

pub overflow_add-result : goal.overflow_add-result
overflow_add-result g c =
    let some : 1 ≤ length (shapes c.self.inside.row.items) = omega (arith, length-map c.self.inside.row.items arc_value) in
    omega (arith, row_is_low g.L.Leaf g.L.Sum.Summary g.met.L.Sum.Summary.adds g.met.L.Leaf.sums c.self.inside.height (shapes c.self.inside.row.items) c.self.invariant.levels some c.self.invariant.fits)

pub returns-in_default-clause-tall : goal.returns-in_default-clause-tall
returns-in_default-clause-tall g c =
    let several : 2 ≤ length (shapes c.self.inside.row.items) = omega (arith, length-map c.self.inside.row.items arc_value) in
    λ high. rw (← c.self.view_is) (tall g.L.Leaf c.self.inside.height (shapes c.self.inside.row.items) c.self.invariant.levels several)

pub returns-in-1-clause-low : goal.returns-in-1-clause-low
returns-in-1-clause-low g c =
    let some : 1 ≤ length (shapes c.self.inside.row.items) = omega (arith, length-map c.self.inside.row.items arc_value) in
    omega (arith, row_is_low g.L.Leaf g.L.Sum.Summary g.met.L.Sum.Summary.adds g.met.L.Leaf.sums c.self.inside.height (shapes c.self.inside.row.items) c.self.invariant.levels some c.self.invariant.fits)

pub returns-in_default-clause-low : goal.returns-in_default-clause-low
returns-in_default-clause-low g c =
    let some : 1 ≤ length (shapes c.self.inside.row.items) = omega (arith, length-map c.self.inside.row.items arc_value) in
    omega (arith, row_is_low g.L.Leaf g.L.Sum.Summary g.met.L.Sum.Summary.adds g.met.L.Leaf.sums c.self.inside.height (shapes c.self.inside.row.items) c.self.invariant.levels some c.self.invariant.fits)

pub returns-in_default-clause-full : goal.returns-in_default-clause-full
returns-in_default-clause-full g c = full-shown g.L.Leaf c.self.inside.height _ (shapes c.self.inside.row.items) c.args.self.now c.self.invariant.levels c.self.view_is
