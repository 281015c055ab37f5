use Rattle.std.proofs.Common.{◌<◌, ◌≤◌}
use Rattle.shared_tree.specs.Row.{items_of, shapes}
use Rattle.shared_tree.proofs.RowLemmas.{items_in-shown, leaves-shown, level_at, height_over-above}
use Rattle.shared_tree.proofs.PlaceLemmas.{found_below, found_fits, found_whole}
use Rattle.shared_tree.proofs.tree.Tree.top.Goals as goal

pub seek-i-requires-clause-reached : goal.seek-i-requires-clause-reached
seek-i-requires-clause-reached g c =
    let same = items_in-shown g.L.Leaf (shapes c.self.inside.row.items) _ c.args.self.now c.self.view_is in
    let zero = g.met.L.Sum.Summary.adds.left_zero (g.L.Leaf.summed (items_of g.L.Leaf c.args.self.now)) in
    rw (c.zero.ensures, c.deref.ensures.value, same, zero) c.requires.within

pub returns-clause-below : goal.returns-clause-below
returns-clause-below g c =
    let inside = rw c.deref.ensures.value at c.seek-i.ensures.inside in
    let level = level_at g.L.Leaf c.self.inside.height c.self.inside.row.items c.seek-i.result.0 c.index.result.now inside c.index.ensures c.self.invariant.levels in
    rw c.deref-2.ensures (height_over-above g.L.Leaf c.self.inside.height c.self.inside.row.items c.seek-i.result.0 _ _ inside level c.self.view_is)

pub returns-clause-found : goal.returns-clause-found
returns-clause-found g c =
    let same = leaves-shown g.L.Leaf (shapes c.self.inside.row.items) _ c.args.self.now c.self.view_is in
    let zero = g.met.L.Sum.Summary.adds.left_zero (g.L.Leaf.summed (items_of g.L.Leaf c.args.self.now)) in
    let within : c.args.at ≤ g.M.Measure.width c.args.measure.now (g.L.Sum.Summary.plus g.L.Sum.Summary.zero (g.L.Leaf.summed (items_of g.L.Leaf c.args.self.now))) = rw zero c.requires.within in
    let none : g.M.Measure.width c.args.measure.now g.L.Sum.Summary.zero < c.args.at = rw (g.met.M.Measure.starts c.args.measure.now) c.requires.some in
    let start = c.zero.ensures in
    let whole = found_whole g.L.Leaf g.L.Sum.Summary g.met.L.Sum.Summary.adds g.met.L.Leaf.sums (g.M.Measure.width c.args.measure.now) g.L.Sum.Summary.zero c.args.self.now.leaves c.args.at none within in
    let inside = rw c.deref.ensures.value at c.seek-i.ensures.inside in
    let next = rw (c.deref.ensures.value, start) at c.seek-i.ensures.sum in
    let reached = rw (c.deref.ensures.value, start) at c.seek-i.ensures.reached in
    rw c.deref-2.ensures (found_below g.L.Leaf g.L.Sum.Summary g.met.L.Sum.Summary.adds g.met.L.Leaf.sums _ _ _ _ _ _ _ c.self.inside.row.items c.seek-i.result.0 c.index.result.now whole same inside c.index.ensures next c.seek-i.ensures.passed reached)

pub returns-clause-fits : goal.returns-clause-fits
returns-clause-fits g c =
    let same = leaves-shown g.L.Leaf (shapes c.self.inside.row.items) _ c.args.self.now c.self.view_is in
    let same_items = items_in-shown g.L.Leaf (shapes c.self.inside.row.items) _ c.args.self.now c.self.view_is in
    let zero = g.met.L.Sum.Summary.adds.left_zero (g.L.Leaf.summed (items_of g.L.Leaf c.args.self.now)) in
    let within : c.args.at ≤ g.M.Measure.width c.args.measure.now (g.L.Sum.Summary.plus g.L.Sum.Summary.zero (g.L.Leaf.summed (items_of g.L.Leaf c.args.self.now))) = rw zero c.requires.within in
    let none : g.M.Measure.width c.args.measure.now g.L.Sum.Summary.zero < c.args.at = rw (g.met.M.Measure.starts c.args.measure.now) c.requires.some in
    let start = c.zero.ensures in
    let whole = found_whole g.L.Leaf g.L.Sum.Summary g.met.L.Sum.Summary.adds g.met.L.Leaf.sums (g.M.Measure.width c.args.measure.now) g.L.Sum.Summary.zero c.args.self.now.leaves c.args.at none within in
    let inside = rw c.deref.ensures.value at c.seek-i.ensures.inside in
    let next = rw (c.deref.ensures.value, start) at c.seek-i.ensures.sum in
    let reached = rw (c.deref.ensures.value, start) at c.seek-i.ensures.reached in
    let found = found_below g.L.Leaf g.L.Sum.Summary g.met.L.Sum.Summary.adds g.met.L.Leaf.sums _ _ _ _ _ _ _ c.self.inside.row.items c.seek-i.result.0 c.index.result.now whole same inside c.index.ensures next c.seek-i.ensures.passed reached in
    let fit = rw same_items at c.self.invariant.fits in
    rw c.deref-2.ensures (found_fits g.L.Leaf g.L.Sum.Summary g.met.L.Sum.Summary.adds g.met.L.Leaf.sums _ _ _ _ _ _ found (rw zero fit))
