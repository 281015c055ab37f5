use Rattle.std.proofs.Common.{◌≡◌, ◌-◌, ◌<◌, length, refl, ap, arith}
use Rattle.std.proofs.lemmas.List.{length-map}
use Rattle.std.specs.Arc.{arc_value}
use Rattle.shared_tree.specs.Row.{items_in, shapes}
use Rattle.shared_tree.proofs.RowLemmas.{after_row, items_in-append, joined_length, level_at, two_nodes, IsRow-append}
use Rattle.shared_tree.proofs.SumLemmas.{last_fits}
use Rattle.shared_tree.proofs.beside.filled.Goals as goal

pub kids-others-requires : goal.kids-others-requires
kids-others-requires g c =
    let level = level_at g.L.Leaf c.args.height c.args.front.now (length c.args.front.now - 1) _ (omega arith) c.index-front-last.is c.requires.front in
    rw c.deref.ensures (omega (arith, level.level))

pub grouped-requires-clause-levels : goal.grouped-requires-clause-levels
grouped-requires-clause-levels g c =
    let level = level_at g.L.Leaf c.args.height c.args.front.now (length c.args.front.now - 1) _ (omega arith) c.index-front-last.is c.requires.front in
    let others = rw (c.deref.ensures, level.level) at c.kids-others.ensures.kids in
    rw c.in_ok-both.ensures (IsRow-append g.L.Leaf (c.args.height - 1) _ _ others.levels c.requires.kids)

pub grouped-requires-clause-low : goal.grouped-requires-clause-low
grouped-requires-clause-low g c =
    let count = joined_length g.L.Leaf c.kids-others.result.now c.args.kids.now c.in_ok-both.both.items c.in_ok-both.ensures in
    omega (arith, count)

pub grouped-requires-clause-high : goal.grouped-requires-clause-high
grouped-requires-clause-high g c =
    let count = joined_length g.L.Leaf c.kids-others.result.now c.args.kids.now c.in_ok-both.both.items c.in_ok-both.ensures in
    omega (arith, count)

pub returns : goal.returns
returns g c =
    let front = c.args.front.now in
    let some : 0 < length front = omega arith in
    let others = rw c.deref.ensures at c.kids-others.ensures in
    let count = joined_length g.L.Leaf c.kids-others.result.now c.args.kids.now c.in_ok-both.both.items c.in_ok-both.ensures in
    let two : length c.in_ok-grown.grown.items ≡ 2 = c.in_ok-grown.ensures.two (omega (arith, count, others.kids.low, length-map c.kids-others.result.now arc_value)) in
    let both = rw (c.in_ok-both.ensures, items_in-append g.L.Leaf (shapes c.kids-others.result.now) (shapes c.args.kids.now), others.same) at c.in_ok-grown.ensures.row in
    let row = two_nodes g.L.Leaf c.args.height _ _ c.in_ok-grown.grown.items refl two both in
    let is = rw (c.split_at.ensures.front, c.deref-2.ensures.value) at c.in_ok-joined.ensures in
    let made = after_row g.L.Leaf c.args.height front c.in_ok-grown.grown.items c.in_ok-joined.field-0.items c.index-front-last.result (items_in g.L.Leaf (shapes c.args.kids.now)) 2 some (omega arith) c.index-front-last.is c.requires.front row is in
    record { levels = made.levels; same = made.same; low = omega (arith, made.low); high = made.high }

pub joined-requires : goal.joined-requires
joined-requires g c = omega arith

pub joined-requires-2 : goal.joined-requires-2
joined-requires-2 g c =
    omega (arith, c.requires.few, c.split_at.ensures.front_len, ap length c.deref-2.ensures.value, length-map c.in_ok-grown.grown.items arc_value, c.in_ok-grown.ensures.row.high)

pub grouped-requires-clause-above : goal.grouped-requires-clause-above
grouped-requires-clause-above g c = c.requires.above

pub grouped-requires-clause-fits : goal.grouped-requires-clause-fits
grouped-requires-clause-fits g c =
    let others = rw c.deref.ensures at c.kids-others.ensures.same in
    let both = last_fits g.L.Leaf g.L.Sum.Summary g.met.L.Sum.Summary.adds g.met.L.Leaf.sums c.args.front.now _ (items_in g.L.Leaf (shapes c.args.kids.now)) (omega arith) c.index-front-last.is c.requires.fits in
    rw (c.in_ok-both.ensures, items_in-append g.L.Leaf (shapes c.kids-others.result.now) (shapes c.args.kids.now), others) both
