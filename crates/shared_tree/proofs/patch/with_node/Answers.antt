use Rattle.std.proofs.Common.{◌≡◌, ◌+◌, take, drop, refl, arith}
use Rattle.std.proofs.lemmas.Result.{IfOk-weaker}
use Rattle.std.specs.Arc.{arc_value}
use Rattle.shared_tree.specs.Row.{items_in, items_of, shapes}
use Rattle.shared_tree.proofs.PatchLemmas.{fits_with_back, fits_with_front, parted-anew, put_node, taken}
use Rattle.shared_tree.proofs.RowLemmas.{back_levels, bunch_few, front_levels}
use Rattle.shared_tree.proofs.patch.with_node.Goals as goal

pub returns-then-height-gt0 : goal.returns-then-height-gt0
returns-then-height-gt0 g c =
    let whole = rw (c.split_at.ensures.front, c.split_at-2.ensures.back) at c.with_between.ensures in
    let short = bunch_few g.L.Leaf c.args.height c.args.nodes.now c.requires.nodes in
    IfOk-weaker c.with_between.result _ _ (λ made is. put_node g.L.Leaf c.args.height c.args.i c.args.i 0 c.args.nodes.now _ _ made.items c.args.node _ c.requires.inside short c.requires.nodes.levels c.requires.node (taken c.args.i c.args.nodes.now) refl refl is) whole

pub glued_after-requires-clause-row : goal.glued_after-requires-clause-row
glued_after-requires-clause-row g c =
    let zero : c.args.height ≡ 0 = omega arith in
    rw c.split_at.ensures.front (front_levels g.L.Leaf 0 _ c.args.nodes.now (rw zero at c.requires.nodes.levels))

pub glued_after-requires-clause-fits : goal.glued_after-requires-clause-fits
glued_after-requires-clause-fits g c =
    rw c.split_at.ensures.front (fits_with_front g.L.Leaf g.L.Sum.Summary g.met.L.Sum.Summary.adds g.met.L.Leaf.sums (items_in g.L.Leaf (shapes (take c.args.i c.args.nodes.now))) (items_of g.L.Leaf (arc_value c.args.node)) (items_in g.L.Leaf (shapes (drop (c.args.i + 1) c.args.nodes.now))) c.requires.fits)

pub glued_before-requires-clause-row : goal.glued_before-requires-clause-row
glued_before-requires-clause-row g c =
    let zero : c.args.height ≡ 0 = omega arith in
    rw c.split_at-2.ensures.back (back_levels g.L.Leaf 0 _ c.args.nodes.now (rw zero at c.requires.nodes.levels))

pub glued_before-requires-clause-fits : goal.glued_before-requires-clause-fits
glued_before-requires-clause-fits g c =
    let nodes = c.args.nodes.now in
    let front = items_in g.L.Leaf (shapes (take c.args.i nodes)) in
    let back = items_in g.L.Leaf (shapes (drop (c.args.i + 1) nodes)) in
    let left = rw c.split_at.ensures.front at c.in_ok-stay.ensures.same in
    rw c.split_at-2.ensures.back (fits_with_back g.L.Leaf g.L.Sum.Summary g.met.L.Sum.Summary.adds g.met.L.Leaf.sums front (items_of g.L.Leaf (arc_value c.args.node)) back (items_in g.L.Leaf (shapes (take c.in_ok-stay.stay (take c.args.i nodes)))) (items_of g.L.Leaf (arc_value c.in_ok-stay.node)) left c.requires.fits)

pub returns : goal.returns
returns g c =
    let zero : c.args.height ≡ 0 = omega arith in
    let nodes = c.args.nodes.now in
    let left = rw c.split_at.ensures.front at c.in_ok-stay.ensures.same in
    let right = rw c.split_at-2.ensures.back at c.in_ok-node.ensures.same in
    let front = rw c.split_at.ensures.front at c.split_at-3.ensures.front in
    let back = rw c.split_at-2.ensures.back at c.split_at-4.ensures.back in
    let whole = rw (front, back) at c.with_between-2.ensures in
    let short = bunch_few g.L.Leaf c.args.height nodes c.requires.nodes in
    let same = parted-anew (items_in g.L.Leaf (shapes (take c.args.i nodes))) (items_of g.L.Leaf (arc_value c.args.node)) (items_in g.L.Leaf (shapes (drop (c.args.i + 1) nodes))) (items_in g.L.Leaf (shapes (take c.in_ok-stay.stay (take c.args.i nodes)))) (items_of g.L.Leaf (arc_value c.in_ok-stay.node)) (items_of g.L.Leaf (arc_value c.in_ok-node.node)) (items_in g.L.Leaf (shapes (drop c.in_ok-node.gone (drop (c.args.i + 1) nodes)))) left right in
    rw zero (IfOk-weaker c.with_between-2.result _ _ (λ made is. put_node g.L.Leaf 0 c.args.i c.in_ok-stay.stay c.in_ok-node.gone nodes _ _ made.items c.in_ok-node.node _ c.requires.inside short (rw zero at c.requires.nodes.levels) c.in_ok-node.ensures.level refl refl same is) whole)

pub with_between-requires : goal.with_between-requires
with_between-requires g c =
    omega (arith, c.split_at.ensures.front_len, c.split_at-2.ensures.back_len, bunch_few g.L.Leaf c.args.height c.args.nodes.now c.requires.nodes)

pub with_between-requires-2 : goal.with_between-requires-2
with_between-requires-2 g c =
    omega (arith, c.split_at.ensures.front_len, c.split_at-2.ensures.back_len, c.split_at-3.ensures.front_len, c.split_at-4.ensures.back_len, c.in_ok-stay.ensures.inside, bunch_few g.L.Leaf c.args.height c.args.nodes.now c.requires.nodes)
