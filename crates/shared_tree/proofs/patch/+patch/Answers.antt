use Rattle.std.proofs.Common.{rules, ◌≡◌, ◌+◌, ◌-◌, ◌*◌, ◌<◌, ◌≤◌, ◌∷◌, length, ap, sym, refl, ◌∙◌, arith}
use Rattle.std.proofs.lemmas.Result.{IfOk-weaker}
use Rattle.std.proofs.lemmas.List.{length-map}
use Rattle.std.specs.Arc.{arc_value}
use Rattle.shared_tree.specs.Shape.{Shape}
use Rattle.shared_tree.specs.Row.{items_in, items_of, shapes, IsBunch, IsFit}
use Rattle.shared_tree.specs.Replaced.{replaced}
use Rattle.shared_tree.proofs.RowLemmas.{bunch_of_kids, items_in-by_leaves, level_at}
use Rattle.shared_tree.proofs.CutLemmas.{node-fits}
use Rattle.shared_tree.proofs.PatchLemmas.{bunch_items, patch-cut, patch-fits, same_row, IfSome_weaker}
use Rattle.shared_tree.proofs.patch.+patch.Goals as goal

pub patched_in-patched_row-requires : goal.patched_in-patched_row-requires
patched_in-patched_row-requires g t c κs within =
    let view = rw c.in-Inner.is at c.node.view_is in
    let built = rw c.in-Inner.is at c.node.invariant.built in
    let same : items_in g.L.Leaf (shapes c.in-Inner.kids.items) ≡ items_of g.L.Leaf c.args.node.now = sym (items_in-by_leaves g.L.Leaf (shapes c.in-Inner.kids.items)) ∙ ap (items_of g.L.Leaf) view in
    let high : c.node.inside.height ≡ c.args.node.now.height = ap (λ (s : Shape g.row.L.Denot). s.height) c.node.view_is in
    let above : 1 ≤ c.node.inside.height = built.above in
    let smaller : 2 * (c.node.inside.height - 1) + 1 < t = omega (arith, c.decreases) in
    let bunch : IsBunch g.L.Leaf (c.node.inside.height - 1) (shapes c.deref.result.now) = rw c.deref.ensures.value (bunch_of_kids g.L.Leaf c.node.inside.height _ c.in-Inner.kids.items built refl) in
    let whole : IsFit g.L.Leaf g.L.Sum.Summary (items_in g.L.Leaf (shapes c.deref.result.now)) = rw (c.deref.ensures.value, same) c.requires.whole in
    let inside : c.args.to ≤ length (items_in g.L.Leaf (shapes c.deref.result.now)) = rw (c.deref.ensures.value, same) c.requires.inside in
    let fit : IsFit g.L.Leaf g.L.Sum.Summary (replaced (items_in g.L.Leaf (shapes c.deref.result.now)) c.args.from c.args.to (items_in g.L.Leaf (shapes c.args.others.now))) = rw (c.deref.ensures.value, same) c.requires.fits in
    search rules

pub patched_in-regrouped-requires-clause-fits : goal.patched_in-regrouped-requires-clause-fits
patched_in-regrouped-requires-clause-fits g t c =
    let view = rw c.in-Inner.is at c.node.view_is in
    let same : items_in g.L.Leaf (shapes c.in-Inner.kids.items) ≡ items_of g.L.Leaf c.args.node.now = sym (items_in-by_leaves g.L.Leaf (shapes c.in-Inner.kids.items)) ∙ ap (items_of g.L.Leaf) view in
    let row = rw c.in-Some.is at c.in_ok-row-in-Inner.ensures in
    rw (row.same, c.deref.ensures.value, same) c.requires.fits

pub patched_in-returns-in-Some : goal.patched_in-returns-in-Some
patched_in-returns-in-Some g t c =
    let view = rw c.in-Inner.is at c.node.view_is in
    let same : items_in g.L.Leaf (shapes c.in-Inner.kids.items) ≡ items_of g.L.Leaf c.args.node.now = sym (items_in-by_leaves g.L.Leaf (shapes c.in-Inner.kids.items)) ∙ ap (items_of g.L.Leaf) view in
    let high : c.node.inside.height ≡ c.args.node.now.height = ap (λ (s : Shape g.row.L.Denot). s.height) c.node.view_is in
    let row = rw c.in-Some.is at c.in_ok-row-in-Inner.ensures in
    let items = rw (c.deref.ensures.value, same) at row.same in
    IfOk-weaker c.regrouped.result _ _ (λ made some. IfSome_weaker made _ _ (λ few of. same_row g.L.Leaf _ _ _ _ 1 2 3 (arc_value few.0 ∷ shapes few.1.items) high items (omega arith) of) some) c.regrouped.ensures

pub patched_row-child_at-i-requires-clause-reached : goal.patched_row-child_at-i-requires-clause-reached
patched_row-child_at-i-requires-clause-reached g t c =
    omega (arith, c.passing.ensures.above, c.requires.inside, bunch_items g.L.Leaf c.args.height (shapes c.args.nodes.now) c.requires.nodes)

pub patched_row-patched_in-requires : goal.patched_row-patched_in-requires
patched_row-patched_in-requires g t c κs within =
    let at = c.child_at-i.ensures in
    let nodes = c.args.nodes.now in
    let i = c.child_at-i.result.0 in
    let start = c.child_at-i.result.1 in
    let level = level_at g.L.Leaf c.args.height nodes i _ at.inside c.index-nodes-i.is c.requires.nodes.levels in
    let smaller : 2 * c.deref-node.result.now.height < t = rw (c.deref-node.ensures, level.level) (omega (arith, c.decreases)) in
    let ordered : c.args.from - start ≤ c.args.to - start = omega arith in
    let inside : c.args.to - start ≤ length (items_of g.L.Leaf c.deref-node.result.now) = omega arith in
    let whole : IsFit g.L.Leaf g.L.Sum.Summary (items_of g.L.Leaf c.deref-node.result.now) = rw c.deref-node.ensures (node-fits g.L.Leaf nodes i _ at.inside c.index-nodes-i.is g.L.Sum.Summary g.met.L.Sum.Summary.adds g.met.L.Leaf.sums c.requires.whole) in
    let low : start ≤ c.args.from = omega (arith, at.passed, c.passing.ensures.below) in
    let high = rw c.deref-node.ensures at inside in
    let fit : IsFit g.L.Leaf g.L.Sum.Summary (replaced (items_of g.L.Leaf c.deref-node.result.now) (c.args.from - start) (c.args.to - start) (items_in g.L.Leaf (shapes c.args.others.now))) = rw c.deref-node.ensures (patch-fits g.L.Leaf nodes i _ at.inside c.index-nodes-i.is g.L.Sum.Summary g.met.L.Sum.Summary.adds g.met.L.Leaf.sums (items_in g.L.Leaf (shapes c.args.others.now)) c.args.from c.args.to start at.start low c.requires.ordered high c.requires.fits) in
    search rules

pub patched_row-placed-requires-clause-row : goal.patched_row-placed-requires-clause-row
patched_row-placed-requires-clause-row g t c =
    let at = c.child_at-i.ensures in
    let level = level_at g.L.Leaf c.args.height c.args.nodes.now c.child_at-i.result.0 _ at.inside c.index-nodes-i.is c.requires.nodes.levels in
    let row = rw (c.in-Some.is, c.deref-node.ensures, level.level) at c.in_ok-few.ensures in
    row.levels

pub patched_row-placed-requires-clause-few : goal.patched_row-placed-requires-clause-few
patched_row-placed-requires-clause-few g t c =
    let row = rw c.in-Some.is at c.in_ok-few.ensures in
    let high : length (arc_value c.in-Some.few.0 ∷ shapes c.in-Some.few.1.items) ≤ 3 = row.high in
    omega (arith, length-map c.in-Some.few.1.items arc_value)

pub patched_row-placed-requires-clause-fits : goal.patched_row-placed-requires-clause-fits
patched_row-placed-requires-clause-fits g t c =
    let at = c.child_at-i.ensures in
    let nodes = c.args.nodes.now in
    let i = c.child_at-i.result.0 in
    let start = c.child_at-i.result.1 in
    let row = rw (c.in-Some.is, c.deref-node.ensures) at c.in_ok-few.ensures in
    let inside : c.args.to - start ≤ length (items_of g.L.Leaf c.deref-node.result.now) = omega arith in
    let low : start ≤ c.args.from = omega (arith, at.passed, c.passing.ensures.below) in
    let high = rw c.deref-node.ensures at inside in
    rw (row.same, patch-cut g.L.Leaf nodes i _ at.inside c.index-nodes-i.is (items_in g.L.Leaf (shapes c.args.others.now)) c.args.from c.args.to start at.start low c.requires.ordered high) c.requires.fits

pub patched_row-returns-in_ok-placed-in-Some : goal.patched_row-returns-in_ok-placed-in-Some
patched_row-returns-in_ok-placed-in-Some g t c =
    let at = c.child_at-i.ensures in
    let nodes = c.args.nodes.now in
    let i = c.child_at-i.result.0 in
    let start = c.child_at-i.result.1 in
    let row = rw (c.in-Some.is, c.deref-node.ensures) at c.in_ok-few.ensures in
    let inside : c.args.to - start ≤ length (items_of g.L.Leaf c.deref-node.result.now) = omega arith in
    let low : start ≤ c.args.from = omega (arith, at.passed, c.passing.ensures.below) in
    let high = rw c.deref-node.ensures at inside in
    let edit = patch-cut g.L.Leaf nodes i _ at.inside c.index-nodes-i.is (items_in g.L.Leaf (shapes c.args.others.now)) c.args.from c.args.to start at.start low c.requires.ordered high in
    rw (row.same, edit) at c.in_ok-placed-in-Some.ensures
