use Rattle.std.proofs.Common.{rules, ◌-◌, ◌<◌, ◌≤◌, ◌++◌, length, arith}
use Rattle.std.proofs.lemmas.List.{length-map}
use Rattle.std.proofs.lemmas.Result.{IfOk-weaker}
use Rattle.std.specs.Arc.{arc_value}
use Rattle.shared_tree.specs.Row.{items_in, shapes, IsBunch, IsFit}
use Rattle.shared_tree.proofs.RowLemmas.{seamed_most, bunch_few, bunch_some, front_levels, items-last, bunch_of_kids, level_at}
use Rattle.shared_tree.proofs.SumLemmas.{last_fits}
use Rattle.shared_tree.proofs.beside.+after.Goals as goal

pub kids-requires : goal.kids-requires
kids-requires g t c =
    let some : 0 < length c.args.nodes.now = bunch_some g.L.Leaf c.args.height c.args.nodes.now c.requires.nodes in
    let level = level_at g.L.Leaf c.args.height c.args.nodes.now (length c.args.nodes.now - 1) _ (omega arith) c.index-nodes-last.is c.requires.nodes.levels in
    rw c.deref.ensures (omega (arith, level.level))

pub after-requires : goal.after-requires
after-requires g t c κs within =
    let some : 0 < length c.args.nodes.now = bunch_some g.L.Leaf c.args.height c.args.nodes.now c.requires.nodes in
    let level = level_at g.L.Leaf c.args.height c.args.nodes.now (length c.args.nodes.now - 1) _ (omega arith) c.index-nodes-last.is c.requires.nodes.levels in
    let kids = rw c.deref.ensures at c.kids.ensures.kids in
    let bunch : IsBunch g.L.Leaf (c.args.height - 1) (shapes c.kids.result.now) = bunch_of_kids g.L.Leaf c.args.height _ c.kids.result.now kids level.level in
    let lower : c.args.row_height ≤ c.args.height - 1 = omega arith in
    let fit : IsFit g.L.Leaf g.L.Sum.Summary (items_in g.L.Leaf (shapes c.kids.result.now) ++ items_in g.L.Leaf (shapes c.args.row.now)) = rw (c.kids.ensures.same, c.deref.ensures) (last_fits g.L.Leaf g.L.Sum.Summary g.met.L.Sum.Summary.adds g.met.L.Leaf.sums c.args.nodes.now _ _ some c.index-nodes-last.is c.requires.fits) in
    search rules

pub returns : goal.returns
returns g t c =
    let some : 0 < length c.args.nodes.now = bunch_some g.L.Leaf c.args.height c.args.nodes.now c.requires.nodes in
    let kids = rw (c.kids.ensures.same, c.deref.ensures) at c.in_ok-kids.ensures.same in
    let items = items-last g.L.Leaf c.args.nodes.now _ (items_in g.L.Leaf (shapes c.args.row.now)) some c.index-nodes-last.is in
    let made = rw (c.split_at.ensures.front, kids, items) at c.with_kids.ensures in
    let count = rw c.split_at.ensures.front at c.split_at.ensures.front_len in
    IfOk-weaker c.with_kids.result _ _ (λ made of. record { levels = of.levels; same = of.same; low = omega (arith, of.low, count); high = of.high }) made

pub with_kids-requires-clause-front : goal.with_kids-requires-clause-front
with_kids-requires-clause-front g t c =
    rw c.split_at.ensures.front (front_levels g.L.Leaf c.args.height _ c.args.nodes.now c.requires.nodes.levels)

pub with_kids-requires-clause-fits : goal.with_kids-requires-clause-fits
with_kids-requires-clause-fits g t c =
    let some : 0 < length c.args.nodes.now = bunch_some g.L.Leaf c.args.height c.args.nodes.now c.requires.nodes in
    let kids = rw (c.kids.ensures.same, c.deref.ensures) at c.in_ok-kids.ensures.same in
    let items = items-last g.L.Leaf c.args.nodes.now _ (items_in g.L.Leaf (shapes c.args.row.now)) some c.index-nodes-last.is in
    rw (c.split_at.ensures.front, kids, items) c.requires.fits

pub with_kids-requires-clause-few : goal.with_kids-requires-clause-few
with_kids-requires-clause-few g t c =
    omega (arith, c.split_at.ensures.front_len, bunch_few g.L.Leaf c.args.height c.args.nodes.now c.requires.nodes, bunch_some g.L.Leaf c.args.height c.args.nodes.now c.requires.nodes)

pub with_kids-requires-clause-above : goal.with_kids-requires-clause-above
with_kids-requires-clause-above g t c = omega arith

pub with_kids-requires-clause-kids : goal.with_kids-requires-clause-kids
with_kids-requires-clause-kids g t c = c.in_ok-kids.ensures.levels

pub with_kids-requires-clause-low : goal.with_kids-requires-clause-low
with_kids-requires-clause-low g t c =
    let kids = rw c.deref.ensures at c.kids.ensures.kids in
    omega (arith, kids.low, length-map c.kids.result.now arc_value, c.in_ok-kids.ensures.low, length-map c.in_ok-kids.kids.items arc_value)

pub with_kids-requires-clause-high : goal.with_kids-requires-clause-high
with_kids-requires-clause-high g t c =
    omega (arith, c.in_ok-kids.ensures.high, length-map c.in_ok-kids.kids.items arc_value)

pub seamed-requires : goal.seamed-requires
seamed-requires g t c = record {
  left = c.requires.nodes.levels;
  right = rw c.if-height-row_height.true c.requires.row.levels;
  few = omega (arith, bunch_few g.L.Leaf c.args.height c.args.nodes.now c.requires.nodes, bunch_few g.L.Leaf c.args.row_height c.args.row.now c.requires.row);
  fits = c.requires.fits;
}

pub returns-then-height-row_height : goal.returns-then-height-row_height
returns-then-height-row_height g t c = IfOk-weaker c.seamed.result _ _ (λ made of. seamed_most g.L.Leaf c.args.height (length c.args.nodes.now) (length c.args.row.now) (length c.args.nodes.now) _ made.items (bunch_few g.L.Leaf c.args.height c.args.nodes.now c.requires.nodes) (bunch_few g.L.Leaf c.args.row_height c.args.row.now c.requires.row) (omega arith) of) c.seamed.ensures
