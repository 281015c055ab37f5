use Rattle.std.proofs.Common.{length, refl, arith}
use Rattle.std.proofs.lemmas.List.{take_all}
use Rattle.std.specs.Arc.{arc_value}
use Rattle.shared_tree.specs.Row.{items_of}
use Rattle.shared_tree.proofs.RowLemmas.{items-last, level_at}
use Rattle.shared_tree.proofs.SumLemmas.{last_fits}
use Rattle.shared_tree.proofs.patch.glued_after.Goals as goal

pub glued-requires-clause-left : goal.glued-requires-clause-left
glued-requires-clause-left g c =
    rw c.deref.ensures (level_at g.L.Leaf 0 c.args.row.now _ _ (omega arith) c.index-row-last.is c.requires.row)

pub glued-requires-clause-right : goal.glued-requires-clause-right
glued-requires-clause-right g c = rw c.deref-2.ensures c.requires.leaf

pub glued-requires-clause-fits : goal.glued-requires-clause-fits
glued-requires-clause-fits g c = rw (c.deref.ensures, c.deref-2.ensures) (last_fits g.L.Leaf g.L.Sum.Summary g.met.L.Sum.Summary.adds g.met.L.Leaf.sums c.args.row.now _ _ (omega arith) c.index-row-last.is c.requires.fits)

pub returns-in-Some : goal.returns-in-Some
returns-in-Some g c =
    let both = rw (c.in-Some.is, c.deref.ensures, c.deref-2.ensures) at c.in_ok-both.ensures.items in
    record {
      inside = omega arith;
      level = rw c.in-Some.is at c.in_ok-both.ensures.level;
      same = rw both (items-last g.L.Leaf c.args.row.now _ (items_of g.L.Leaf (arc_value c.args.leaf)) (omega arith) c.index-row-last.is);
    }

pub returns-in-None : goal.returns-in-None
returns-in-None g c = record {
  inside = omega arith;
  level = c.requires.leaf;
  same = rw (take_all (length c.args.row.now) c.args.row.now (omega arith)) refl;
}
