use Rattle.std.proofs.Common.{rules, ◌≡◌, ◌+◌, ◌-◌, ◌*◌, ◌<◌, ◌≤◌, length, ap, sym, refl, ◌∙◌, arith}
use Rattle.shared_tree.specs.Shape.{Shape}
use Rattle.shared_tree.specs.Row.{items_in, items_of, shapes, IsBunch, IsFit}
use Rattle.shared_tree.proofs.RowLemmas.{bunch_of_kids, items_in-by_leaves, level_at}
use Rattle.shared_tree.proofs.CutLemmas.{back-cut, back-fits, node-fits, reached-inside, top-back}
use Rattle.shared_tree.proofs.cut.+back.Goals as goal

pub back_in-back_of-requires : goal.back_in-back_of-requires
back_in-back_of-requires g t c κs within =
    let view = rw c.in-Inner.is at c.node.view_is in
    let built = rw c.in-Inner.is at c.node.invariant.built in
    let same : items_in g.L.Leaf (shapes c.in-Inner.kids.items) ≡ items_of g.L.Leaf c.args.node.now = sym (items_in-by_leaves g.L.Leaf (shapes c.in-Inner.kids.items)) ∙ ap (items_of g.L.Leaf) view in
    let high : c.node.inside.height ≡ c.args.node.now.height = ap (λ (s : Shape g.row.L.Denot). s.height) c.node.view_is in
    let above : 1 ≤ c.node.inside.height = built.above in
    let smaller : 2 * (c.node.inside.height - 1) + 1 < t = omega (arith, c.decreases) in
    let bunch : IsBunch g.L.Leaf (c.node.inside.height - 1) (shapes c.deref.result.now) = rw c.deref.ensures.value (bunch_of_kids g.L.Leaf c.node.inside.height _ c.in-Inner.kids.items built refl) in
    let fit : IsFit g.L.Leaf g.L.Sum.Summary (items_in g.L.Leaf (shapes c.deref.result.now)) = rw (c.deref.ensures.value, same) c.requires.fits in
    let inside : c.args.from < length (items_in g.L.Leaf (shapes c.deref.result.now)) = rw (c.deref.ensures.value, same) c.requires.inside in
    search rules

pub back_in-returns-in-Inner : goal.back_in-returns-in-Inner
back_in-returns-in-Inner g t c =
    let view = rw c.in-Inner.is at c.node.view_is in
    let same : items_in g.L.Leaf (shapes c.in-Inner.kids.items) ≡ items_of g.L.Leaf c.args.node.now = sym (items_in-by_leaves g.L.Leaf (shapes c.in-Inner.kids.items)) ∙ ap (items_of g.L.Leaf) view in
    rw (c.deref.ensures.value, same) at c.back_of.ensures

pub back_of-back_in-requires : goal.back_of-back_in-requires
back_of-back_in-requires g t c κs within =
    let at = c.child_at-i.ensures in
    let level = level_at g.L.Leaf c.args.height c.args.nodes.now c.child_at-i.result.0 _ at.inside c.index-nodes-i.is c.requires.nodes.levels in
    let smaller : 2 * c.deref.result.now.height < t = rw (c.deref.ensures, level.level) (omega (arith, c.decreases)) in
    let reached = reached-inside g.L.Leaf c.args.nodes.now c.child_at-i.result.0 _ at.inside c.index-nodes-i.is (c.args.from + 1) c.child_at-i.result.1 at.start at.reached in
    let inside : c.args.from - c.child_at-i.result.1 < length (items_of g.L.Leaf c.deref.result.now) = rw c.deref.ensures (omega (arith, reached, at.passed)) in
    let fit : IsFit g.L.Leaf g.L.Sum.Summary (items_of g.L.Leaf c.deref.result.now) = rw c.deref.ensures (node-fits g.L.Leaf c.args.nodes.now c.child_at-i.result.0 _ at.inside c.index-nodes-i.is g.L.Sum.Summary g.met.L.Sum.Summary.adds g.met.L.Leaf.sums c.requires.fits) in
    search rules

pub back_of-before_row-requires-clause-row : goal.back_of-before_row-requires-clause-row
back_of-before_row-requires-clause-row g t c =
    rw c.split_at.ensures.back (top-back g.L.Leaf g.L.Sum.Summary g.met.L.Sum.Summary.adds g.met.L.Leaf.sums c.args.height _ c.args.nodes.now c.requires.nodes c.requires.fits)

pub back_of-before_row-requires-clause-fits : goal.back_of-before_row-requires-clause-fits
back_of-before_row-requires-clause-fits g t c =
    let at = c.child_at-i.ensures in
    rw (c.split_at.ensures.back, c.in_ok-part.ensures, c.deref.ensures) (back-fits g.L.Leaf c.args.nodes.now c.child_at-i.result.0 _ at.inside c.index-nodes-i.is g.L.Sum.Summary g.met.L.Sum.Summary.adds g.met.L.Leaf.sums c.requires.fits c.args.from c.child_at-i.result.1 at.start at.passed at.reached)

pub back_of-returns : goal.back_of-returns
back_of-returns g t c =
    let at = c.child_at-i.ensures in
    let parts = rw (c.split_at.ensures.back, c.in_ok-part.ensures, c.deref.ensures, back-cut g.L.Leaf c.args.nodes.now c.child_at-i.result.0 _ at.inside c.index-nodes-i.is c.args.from c.child_at-i.result.1 at.start at.passed at.reached) at c.before_row.ensures in
    parts
