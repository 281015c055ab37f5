use Rattle.std.proofs.Common.{arith, ap, length}
use Rattle.std.proofs.lemmas.List.{length-map}
use Rattle.std.proofs.lemmas.Result.{IfOk-weaker}
use Rattle.std.specs.Arc.{arc_value}
use Rattle.shared_tree.proofs.RowLemmas.{with_more}
use Rattle.shared_tree.proofs.SumLemmas.{IsFit-right}
use Rattle.shared_tree.proofs.beside.with_kids.Goals as goal

pub filled-requires : goal.filled-requires
filled-requires g c = record {
  front = c.requires.front;
  few = c.requires.few;
  above = c.requires.above;
  kids = rw c.deref.ensures.value c.requires.kids;
  high = rw c.deref.ensures.value c.requires.high;
  fits = rw c.deref.ensures.value c.requires.fits;
}

pub returns-in-Some : goal.returns-in-Some
returns-in-Some g c = rw (c.in-Some.is, c.deref.ensures.value) at c.in_ok-made.ensures

pub grouped-requires : goal.grouped-requires
grouped-requires g c = record {
  above = c.requires.above;
  levels = c.requires.kids;
  low = c.requires.low;
  high = c.requires.high;
  fits = IsFit-right g.L.Leaf g.L.Sum.Summary g.met.L.Sum.Summary.adds g.met.L.Leaf.sums _ _ c.requires.fits;
}

pub joined-requires : goal.joined-requires
joined-requires g c =
    omega (arith, c.requires.few, ap length c.deref-in-None.ensures.value, length-map c.in_ok-grown-in-None.grown.items arc_value, c.in_ok-grown-in-None.ensures.row.high)

pub returns-in_ok-grown-in-None : goal.returns-in_ok-grown-in-None
returns-in_ok-grown-in-None g c =
    IfOk-weaker c.joined.result _ _ (λ made is. with_more g.L.Leaf c.args.height c.args.front.now c.in_ok-grown-in-None.grown.items made.items _ c.requires.front c.requires.few c.in_ok-grown-in-None.ensures.row is) (rw c.deref-in-None.ensures.value at c.joined.ensures)
