use Rattle.std.proofs.Common.{◌≡◌, ◌∷◌, arith, ap, length}
use Rattle.std.proofs.lemmas.Result.{IfOk-weaker}
use Rattle.std.specs.Arc.{arc_value}
use Rattle.shared_tree.specs.Row.{shapes}
use Rattle.shared_tree.proofs.RowLemmas.{alone_items, cons_length, IsRow-head}
use Rattle.shared_tree.proofs.patch.placed.Goals as goal

pub with_node-requires : goal.with_node-requires
with_node-requires g c =
    let alone = alone_items g.L.Leaf (arc_value c.args.few.0) c.args.few.1.items (omega (arith, c.len.ensures, c.if-len-eq0.true)) in
    record {
      nodes = c.requires.nodes;
      node = IsRow-head g.L.Leaf c.args.height _ _ c.requires.row;
      inside = c.requires.inside;
      fits = rw alone at c.requires.fits;
    }

pub returns-then-len-eq0 : goal.returns-then-len-eq0
returns-then-len-eq0 g c =
    let alone = alone_items g.L.Leaf (arc_value c.args.few.0) c.args.few.1.items (omega (arith, c.len.ensures, c.if-len-eq0.true)) in
    rw alone c.with_node.ensures

pub with_between-requires : goal.with_between-requires
with_between-requires g c =
    omega (arith, c.split_at.ensures.front_len, ap length c.deref-2.ensures.value, c.requires.few)

pub within-requires : goal.within-requires
within-requires g c =
    let row : shapes c.in_ok-row.row.items ≡ arc_value c.args.few.0 ∷ shapes c.args.few.1.items = rw (c.split_at.ensures.front, c.deref-2.ensures.value) at c.in_ok-row.ensures in
    let count = cons_length g.L.Leaf c.args.few.1.items c.in_ok-row.row.items _ row in
    record {
      nodes = c.requires.nodes;
      row = rw (c.deref-3.ensures.value, row) c.requires.row;
      few = omega (arith, ap length c.deref-3.ensures.value, count, c.requires.few);
      inside = c.requires.inside;
      fits = rw (c.deref-3.ensures.value, row) c.requires.fits;
    }

pub returns : goal.returns
returns g c =
    let row : shapes c.in_ok-row.row.items ≡ arc_value c.args.few.0 ∷ shapes c.args.few.1.items = rw (c.split_at.ensures.front, c.deref-2.ensures.value) at c.in_ok-row.ensures in
    let count = cons_length g.L.Leaf c.args.few.1.items c.in_ok-row.row.items _ row in
    let made = rw (c.deref-3.ensures.value, row) at c.within.ensures in
    IfOk-weaker c.within.result _ _ (λ made of. record { levels = of.levels; same = of.same; low = omega (arith, of.low, count); high = of.high }) made
