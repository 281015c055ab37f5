use Rattle.std.proofs.Common.{◌≡◌, ◌-◌, ◌∙◌, arith, ap, drop, length, length-drop, take}
use Rattle.std.proofs.lemmas.List.{length-map, take_all}
use Rattle.std.specs.Arc.{arc_value}
use Rattle.shared_tree.specs.Row.{items_in, shapes}
use Rattle.shared_tree.proofs.RowLemmas.{is_some}
use Rattle.shared_tree.proofs.SumLemmas.{IsFit-right}
use Rattle.shared_tree.proofs.patch.pieces.Goals as goal

pub cut-requires : goal.cut-requires
cut-requires g c = record {
  ordered = omega arith;
  inside = omega (arith, c.requires.ordered, c.requires.inside);
  fits = c.requires.whole;
}

pub cut-requires-2 : goal.cut-requires-2
cut-requires-2 g c = record {
  ordered = rw c.len.ensures c.requires.inside;
  inside = omega (arith, c.len.ensures);
  fits = c.requires.whole;
}

pub seamed-requires : goal.seamed-requires
seamed-requires g c =
    let items = g.L.Leaf.items c.args.leaf.now in
    let back : items_in g.L.Leaf (shapes c.in_ok-back.back.items) ≡ drop c.args.to items = c.in_ok-back.ensures.same ∙ take_all _ (drop c.args.to items) (omega (arith, length-drop c.args.to items, c.len.ensures)) in
    record {
      left = c.requires.others;
      right = rw c.deref.ensures.value c.in_ok-back.ensures.levels;
      few = omega (arith, c.requires.few, ap length c.deref.ensures.value, length-map c.in_ok-back.back.items arc_value, c.in_ok-back.ensures.high);
      fits = rw (c.deref.ensures.value, back) (IsFit-right g.L.Leaf g.L.Sum.Summary g.met.L.Sum.Summary.adds g.met.L.Leaf.sums (take c.args.from items) _ c.requires.fits);
    }

pub seamed-requires-2 : goal.seamed-requires-2
seamed-requires-2 g c =
    let items = g.L.Leaf.items c.args.leaf.now in
    let whole : c.args.from - 0 ≡ c.args.from = omega arith in
    let front : items_in g.L.Leaf (shapes c.in_ok-front.front.items) ≡ take c.args.from items = rw whole at c.in_ok-front.ensures.same in
    let back : items_in g.L.Leaf (shapes c.in_ok-back.back.items) ≡ drop c.args.to items = c.in_ok-back.ensures.same ∙ take_all _ (drop c.args.to items) (omega (arith, length-drop c.args.to items, c.len.ensures)) in
    let rest = rw (c.deref.ensures.value, back) at c.in_ok-rest.ensures.same in
    record {
      left = rw c.deref-2.ensures.value c.in_ok-front.ensures.levels;
      right = rw c.deref-3.ensures.value c.in_ok-rest.ensures.levels;
      few = omega (arith, c.requires.few, ap length c.deref.ensures.value, ap length c.deref-2.ensures.value, ap length c.deref-3.ensures.value, length-map c.in_ok-back.back.items arc_value, length-map c.in_ok-front.front.items arc_value, length-map c.in_ok-rest.rest.items arc_value, c.in_ok-back.ensures.high, c.in_ok-front.ensures.high, c.in_ok-rest.ensures.high);
      fits = rw (c.deref-2.ensures.value, c.deref-3.ensures.value, front, rest) c.requires.fits;
    }

pub returns : goal.returns
returns g c =
    let items = g.L.Leaf.items c.args.leaf.now in
    let whole : c.args.from - 0 ≡ c.args.from = omega arith in
    let front : items_in g.L.Leaf (shapes c.in_ok-front.front.items) ≡ take c.args.from items = rw whole at c.in_ok-front.ensures.same in
    let back : items_in g.L.Leaf (shapes c.in_ok-back.back.items) ≡ drop c.args.to items = c.in_ok-back.ensures.same ∙ take_all _ (drop c.args.to items) (omega (arith, length-drop c.args.to items, c.len.ensures)) in
    let rest = rw (c.deref.ensures.value, back) at c.in_ok-rest.ensures.same in
    let all = rw (c.deref-2.ensures.value, c.deref-3.ensures.value, front, rest) at c.in_ok-row.ensures.same in
    record {
      levels = c.in_ok-row.ensures.levels;
      same = all;
      low = omega (arith, is_some _ c.if-is_empty.ensures, length-map c.in_ok-row.row.items arc_value);
      high = omega (arith, c.requires.few, ap length c.deref.ensures.value, ap length c.deref-2.ensures.value, ap length c.deref-3.ensures.value, length-map c.in_ok-back.back.items arc_value, length-map c.in_ok-front.front.items arc_value, length-map c.in_ok-rest.rest.items arc_value, c.in_ok-back.ensures.high, c.in_ok-front.ensures.high, c.in_ok-rest.ensures.high, c.in_ok-row.ensures.high);
    }
