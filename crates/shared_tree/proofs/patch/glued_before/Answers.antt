use Rattle.std.proofs.Common.{append_assoc, refl, arith}
use Rattle.std.specs.Arc.{arc_value}
use Rattle.shared_tree.specs.Row.{items_of}
use Rattle.shared_tree.proofs.RowLemmas.{level_at, shapes-first}
use Rattle.shared_tree.proofs.SumLemmas.{first_fits}
use Rattle.shared_tree.proofs.patch.glued_before.Goals as goal

pub glued-requires-clause-right : goal.glued-requires-clause-right
glued-requires-clause-right g c =
    rw c.deref-2.ensures (level_at g.L.Leaf 0 c.args.row.now _ _ (omega arith) c.index-row-0.is c.requires.row)

pub glued-requires-clause-left : goal.glued-requires-clause-left
glued-requires-clause-left g c = rw c.deref.ensures c.requires.leaf

pub glued-requires-clause-fits : goal.glued-requires-clause-fits
glued-requires-clause-fits g c =
    let fit = first_fits g.L.Leaf g.L.Sum.Summary g.met.L.Sum.Summary.adds g.met.L.Leaf.sums c.args.row.now _ _ (omega arith) c.index-row-0.is c.requires.fits in
    rw (c.deref.ensures, c.deref-2.ensures) fit

pub returns-in-Some : goal.returns-in-Some
returns-in-Some g c =
    let both = rw (c.in-Some.is, c.deref.ensures, c.deref-2.ensures) at c.in_ok-both.ensures.items in
    record {
      inside = omega arith;
      level = rw c.in-Some.is at c.in_ok-both.ensures.level;
      same = rw (shapes-first c.args.row.now _ (omega arith) c.index-row-0.is, both) (append_assoc (items_of g.L.Leaf (arc_value c.args.leaf)) _ _);
    }

pub returns-in-None : goal.returns-in-None
returns-in-None g c = record { inside = omega arith; level = c.requires.leaf; same = refl }
