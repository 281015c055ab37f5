use Rattle.std.proofs.Common.{◌≡◌, ◌++◌, length, ap, arith}
use Rattle.std.proofs.lemmas.List.{length-map}
use Rattle.std.specs.Arc.{arc_value}
use Rattle.std.proofs.lemmas.Result.{IfOk-weaker}
use Rattle.shared_tree.specs.Row.{shapes}
use Rattle.shared_tree.proofs.RowLemmas.{kids_of, kids_of_front, kids_of_back, made_under_one, made_under_two, shapes-split}
use Rattle.shared_tree.proofs.SumLemmas.{row_back_fits, row_front_fits}
use Rattle.shared_tree.proofs.row.grouped.Goals as goal

pub returns-then-len-le8-clause-row : goal.returns-then-len-le8-clause-row
returns-then-len-le8-clause-row g c =
    let are = kids_of g.L.Leaf c.args.height c.args.row.items c.requires.above c.requires.levels c.requires.low (omega arith) in
    IfOk-weaker c.single.result _ _ (λ made is. made_under_one g.L.Leaf c.args.height (shapes c.args.row.items) _ _ are c.inner.ensures is) c.single.ensures

pub inner-requires-2-clause-kids : goal.inner-requires-2-clause-kids
inner-requires-2-clause-kids g c =
    kids_of_front g.L.Leaf c.args.height _ c.args.row.items _ _ c.requires.above c.requires.levels (rw c.deref.ensures.value at c.split_at.ensures.front) c.in_ok-left.ensures (omega arith) (omega arith)

pub inner-requires-3-clause-kids : goal.inner-requires-3-clause-kids
inner-requires-3-clause-kids g c =
    kids_of_back g.L.Leaf c.args.height _ c.args.row.items _ _ c.requires.above c.requires.levels (rw c.deref.ensures.value at c.split_at.ensures.back) c.in_ok-right.ensures (omega arith) (omega arith)

pub returns-clause-row : goal.returns-clause-row
returns-clause-row g c =
    let row = c.args.row.items in
    let front = rw c.deref.ensures.value at c.split_at.ensures.front in
    let back = rw c.deref.ensures.value at c.split_at.ensures.back in
    let left = kids_of_front g.L.Leaf c.args.height _ row _ _ c.requires.above c.requires.levels front c.in_ok-left.ensures (omega arith) (omega arith) in
    let right = kids_of_back g.L.Leaf c.args.height _ row _ _ c.requires.above c.requires.levels back c.in_ok-right.ensures (omega arith) (omega arith) in
    let cut : shapes row ≡ shapes c.in_ok-left.left.items ++ shapes c.in_ok-right.right.items = rw (c.in_ok-left.ensures, c.in_ok-right.ensures, front, back) (shapes-split row _) in
    IfOk-weaker c.pair.result _ _ (λ made is. made_under_two g.L.Leaf c.args.height (shapes row) _ _ _ _ _ cut left right c.inner-2.ensures c.inner-3.ensures is) c.pair.ensures

pub inner-requires-2-clause-fits : goal.inner-requires-2-clause-fits
inner-requires-2-clause-fits g c = rw (c.in_ok-left.ensures, rw c.deref.ensures.value at c.split_at.ensures.front) (row_front_fits g.L.Leaf g.L.Sum.Summary g.met.L.Sum.Summary.adds g.met.L.Leaf.sums c.args.row.items _ c.requires.fits)

pub inner-requires-3-clause-fits : goal.inner-requires-3-clause-fits
inner-requires-3-clause-fits g c =
    let back = rw c.deref.ensures.value at c.split_at.ensures.back in
    rw (c.in_ok-right.ensures, back) (row_back_fits g.L.Leaf g.L.Sum.Summary g.met.L.Sum.Summary.adds g.met.L.Leaf.sums c.args.row.items _ c.requires.fits)

pub inner-requires : goal.inner-requires
inner-requires g c = record {
  kids = kids_of g.L.Leaf c.args.height c.args.row.items c.requires.above c.requires.levels c.requires.low (omega arith);
  fits = c.requires.fits;
}

pub returns-then-len-le8-clause-two : goal.returns-then-len-le8-clause-two
returns-then-len-le8-clause-two g c = λ many. absurd (omega arith)

pub returns-clause-two : goal.returns-clause-two
returns-clause-two g c = λ many. IfOk-weaker c.pair.result _ _ (λ made is. omega (arith, length-map made.items arc_value, ap length is)) c.pair.ensures
