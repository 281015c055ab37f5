use Rattle.std.proofs.Common.{rules, ◌-◌, ◌<◌, ◌≤◌, ◌++◌, length, ap, arith}
use Rattle.std.proofs.lemmas.List.{length-map}
use Rattle.std.proofs.lemmas.Result.{IfOk-weaker}
use Rattle.std.specs.Arc.{arc_value}
use Rattle.shared_tree.specs.Row.{items_in, shapes, IsBunch, IsFit}
use Rattle.shared_tree.proofs.RowLemmas.{seamed_most, before_row, bunch_few, bunch_some, bunch_of_kids, level_at}
use Rattle.shared_tree.proofs.SumLemmas.{first_fits}
use Rattle.shared_tree.proofs.beside.+before.Goals as goal

pub before-requires : goal.before-requires
before-requires g t c κs within =
    let some : 0 < length c.args.nodes.now = bunch_some g.L.Leaf c.args.height c.args.nodes.now c.requires.nodes in
    let level = level_at g.L.Leaf c.args.height c.args.nodes.now 0 _ some c.index-nodes-0.is c.requires.nodes.levels in
    let kids = rw c.deref.ensures at c.kids.ensures.kids in
    let bunch : IsBunch g.L.Leaf (c.args.height - 1) (shapes c.kids.result.now) = bunch_of_kids g.L.Leaf c.args.height _ c.kids.result.now kids level.level in
    let lower : c.args.row_height ≤ c.args.height - 1 = omega arith in
    let fit : IsFit g.L.Leaf g.L.Sum.Summary (items_in g.L.Leaf (shapes c.args.row.now) ++ items_in g.L.Leaf (shapes c.kids.result.now)) = rw (c.kids.ensures.same, c.deref.ensures) (first_fits g.L.Leaf g.L.Sum.Summary g.met.L.Sum.Summary.adds g.met.L.Leaf.sums c.args.nodes.now _ _ some c.index-nodes-0.is c.requires.fits) in
    search rules

pub returns : goal.returns
returns g t c =
    let some : 0 < length c.args.nodes.now = bunch_some g.L.Leaf c.args.height c.args.nodes.now c.requires.nodes in
    let row = rw (c.in_ok-grown.ensures.same, c.kids.ensures.same, c.deref.ensures) at c.in_ok-grown-2.ensures.row in
    let made = rw (c.split_at.ensures.back, c.deref-2.ensures.value) at c.joined.ensures in
    IfOk-weaker c.joined.result _ _ (λ made is. before_row g.L.Leaf c.args.height c.args.nodes.now c.in_ok-grown-2.grown.items made.items c.index-nodes-0.result (items_in g.L.Leaf (shapes c.args.row.now)) some (bunch_few g.L.Leaf c.args.height c.args.nodes.now c.requires.nodes) c.index-nodes-0.is c.requires.nodes.levels row is) made

pub kids-requires : goal.kids-requires
kids-requires g t c =
    let some : 0 < length c.args.nodes.now = bunch_some g.L.Leaf c.args.height c.args.nodes.now c.requires.nodes in
    let level = level_at g.L.Leaf c.args.height c.args.nodes.now 0 _ some c.index-nodes-0.is c.requires.nodes.levels in
    rw c.deref.ensures (omega (arith, level.level))

pub grouped-requires : goal.grouped-requires
grouped-requires g t c =
    let some : 0 < length c.args.nodes.now = bunch_some g.L.Leaf c.args.height c.args.nodes.now c.requires.nodes in
    let short : length c.args.nodes.now ≤ 8 = bunch_few g.L.Leaf c.args.height c.args.nodes.now c.requires.nodes in
    let level = level_at g.L.Leaf c.args.height c.args.nodes.now 0 _ some c.index-nodes-0.is c.requires.nodes.levels in
    let kids = rw c.deref.ensures at c.kids.ensures.kids in
    record {
      above = omega arith;
      levels = c.in_ok-grown.ensures.levels;
      low = omega (arith, kids.low, length-map c.kids.result.now arc_value, c.in_ok-grown.ensures.low, length-map c.in_ok-grown.grown.items arc_value);
      high = omega (arith, c.in_ok-grown.ensures.high, length-map c.in_ok-grown.grown.items arc_value);
      fits = rw (c.in_ok-grown.ensures.same, c.kids.ensures.same, c.deref.ensures) (first_fits g.L.Leaf g.L.Sum.Summary g.met.L.Sum.Summary.adds g.met.L.Leaf.sums c.args.nodes.now _ _ some c.index-nodes-0.is c.requires.fits);
    }

pub joined-requires : goal.joined-requires
joined-requires g t c =
    omega (arith, ap length c.deref-2.ensures.value, length-map c.in_ok-grown-2.grown.items arc_value, c.in_ok-grown-2.ensures.row.high, c.split_at.ensures.back_len, bunch_few g.L.Leaf c.args.height c.args.nodes.now c.requires.nodes)

pub seamed-requires : goal.seamed-requires
seamed-requires g t c = record {
  left = rw c.if-height-row_height.true c.requires.row.levels;
  right = c.requires.nodes.levels;
  few = omega (arith, bunch_few g.L.Leaf c.args.height c.args.nodes.now c.requires.nodes, bunch_few g.L.Leaf c.args.row_height c.args.row.now c.requires.row);
  fits = c.requires.fits;
}

pub returns-then-height-row_height : goal.returns-then-height-row_height
returns-then-height-row_height g t c = IfOk-weaker c.seamed.result _ _ (λ made of. seamed_most g.L.Leaf c.args.height (length c.args.row.now) (length c.args.nodes.now) (length c.args.nodes.now) _ made.items (bunch_few g.L.Leaf c.args.row_height c.args.row.now c.requires.row) (bunch_few g.L.Leaf c.args.height c.args.nodes.now c.requires.nodes) (omega arith) of) c.seamed.ensures
