use Rattle.shared_tree.specs.Row.{items_of}
use Rattle.shared_tree.proofs.JoinLemmas.{fused, fused-fits, fused-left}
use Rattle.shared_tree.proofs.tree.Tree.joined.Goals as goal

pub with_leaf-requires-clause-fits : goal.with_leaf-requires-clause-fits
with_leaf-requires-clause-fits g c =
    let self = items_of g.L.Leaf c.args.self.now in
    let last = g.L.Leaf.items c.last_leaf-last.result.now in
    let first = g.L.Leaf.items c.first_leaf-first.result.now in
    let both = rw c.in-Some.is at c.in_ok-both.ensures in
    let front = rw (c.len-in-Some.ensures, c.len-in-Some-2.ensures) at c.in_ok-front-in-Some.ensures in
    let left = fused-left self last first (g.L.Leaf.items c.in-Some.both) (items_of g.L.Leaf c.in_ok-front-in-Some.front) _ c.last_leaf-last.ensures.last front both in
    rw left (fused-fits g.L.Leaf g.L.Sum.Summary g.met.L.Sum.Summary.adds g.met.L.Leaf.sums self first _ (items_of g.L.Leaf c.args.other.now) c.first_leaf-first.ensures.first c.requires)

pub aligned-requires-in-Some : goal.aligned-requires-in-Some
aligned-requires-in-Some g c =
    let self = items_of g.L.Leaf c.args.self.now in
    let last = g.L.Leaf.items c.last_leaf-last.result.now in
    let first = g.L.Leaf.items c.first_leaf-first.result.now in
    let both = rw c.in-Some.is at c.in_ok-both.ensures in
    let front = rw (c.len-in-Some.ensures, c.len-in-Some-2.ensures) at c.in_ok-front-in-Some.ensures in
    let left = fused-left self last first (g.L.Leaf.items c.in-Some.both) (items_of g.L.Leaf c.in_ok-front-in-Some.front) _ c.last_leaf-last.ensures.last front both in
    let other = items_of g.L.Leaf c.args.other.now in
    let back = rw c.len-in-Some-3.ensures at c.in_ok-back-in-Some.ensures in
    let whole = fused self first other (items_of g.L.Leaf c.in_ok-back-in-Some.back) _ c.first_leaf-first.ensures.first back in
    rw (c.in_ok-with_leaf-in-Some.ensures, left, whole) c.requires

pub returns-in_ok-with_leaf-in-Some : goal.returns-in_ok-with_leaf-in-Some
returns-in_ok-with_leaf-in-Some g c =
    let self = items_of g.L.Leaf c.args.self.now in
    let last = g.L.Leaf.items c.last_leaf-last.result.now in
    let first = g.L.Leaf.items c.first_leaf-first.result.now in
    let both = rw c.in-Some.is at c.in_ok-both.ensures in
    let front = rw (c.len-in-Some.ensures, c.len-in-Some-2.ensures) at c.in_ok-front-in-Some.ensures in
    let left = fused-left self last first (g.L.Leaf.items c.in-Some.both) (items_of g.L.Leaf c.in_ok-front-in-Some.front) _ c.last_leaf-last.ensures.last front both in
    let other = items_of g.L.Leaf c.args.other.now in
    let back = rw c.len-in-Some-3.ensures at c.in_ok-back-in-Some.ensures in
    let whole = fused self first other (items_of g.L.Leaf c.in_ok-back-in-Some.back) _ c.first_leaf-first.ensures.first back in
    rw (c.in_ok-with_leaf-in-Some.ensures, left, whole) at c.aligned-in-Some-2.ensures
