use Rattle.std.proofs.Common.{◌≡◌, ◌<◌, length, arith}
use Rattle.std.proofs.lemmas.Bool.Decides.{nat_tests}
use Rattle.std.proofs.lemmas.Result.{IfOk-weaker}
use Rattle.shared_tree.proofs.RowLemmas.{glued_row, joined_row, level_at}
use Rattle.shared_tree.proofs.SumLemmas.{seam_fits}
use Rattle.shared_tree.proofs.row.seamed.Goals as goal

pub returns-then-height-gt0 : goal.returns-then-height-gt0
returns-then-height-gt0 g c =
    IfOk-weaker c.joined.result _ _ (λ made is. joined_row g.L.Leaf c.args.height c.args.left.now c.args.right.now made.items is c.requires.left c.requires.right) c.joined.ensures

pub returns-in-Some : goal.returns-in-Some
returns-in-Some g c =
    let zero : c.args.height ≡ 0 = omega arith in
    let level = rw (c.in-Some.is) at c.in_ok-both.ensures.level in
    let same = rw (c.in-Some.is, c.deref.ensures, c.deref-2.ensures) at c.in_ok-both.ensures.items in
    let left = rw zero at c.requires.left in
    let right = rw zero at c.requires.right in
    let some : 0 < length c.args.left.now = grind (arith, nat_tests) in
    let others : 0 < length c.args.right.now = grind (arith, nat_tests) in
    let made = rw (c.split_at.ensures.front, c.split_at-2.ensures.back) at c.with_between.ensures in
    rw zero (IfOk-weaker c.with_between.result _ _ (λ made is. glued_row g.L.Leaf c.args.left.now c.args.right.now made.items c.index-left-last.result c.index-right-0.result c.in-Some.both some others c.index-left-last.is c.index-right-0.is is left right level same) made)

pub returns-in-None : goal.returns-in-None
returns-in-None g c =
    IfOk-weaker c.joined-in-None.result _ _ (λ made is. joined_row g.L.Leaf c.args.height c.args.left.now c.args.right.now made.items is c.requires.left c.requires.right) c.joined-in-None.ensures

pub glued-requires-clause-left : goal.glued-requires-clause-left
glued-requires-clause-left g c =
    let zero : c.args.height ≡ 0 = omega arith in
    let left = rw zero at c.requires.left in
    let some : 0 < length c.args.left.now = grind (arith, nat_tests) in
    rw c.deref.ensures (level_at g.L.Leaf 0 c.args.left.now _ _ (omega arith) c.index-left-last.is left)

pub glued-requires-clause-fits : goal.glued-requires-clause-fits
glued-requires-clause-fits g c =
    let some : 0 < length c.args.left.now = grind (arith, nat_tests) in
    let others : 0 < length c.args.right.now = grind (arith, nat_tests) in
    rw (c.deref.ensures, c.deref-2.ensures) (seam_fits g.L.Leaf g.L.Sum.Summary g.met.L.Sum.Summary.adds g.met.L.Leaf.sums c.args.left.now c.args.right.now _ _ some others c.index-left-last.is c.index-right-0.is c.requires.fits)
