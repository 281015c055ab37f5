use Rattle.std.proofs.Common.{arith}
use Rattle.std.proofs.lemmas.List.{append-nil, length-map}
use Rattle.std.specs.Arc.{arc_value}
use Rattle.shared_tree.proofs.RowLemmas.{bunch_of, copied_few, is_none, is_some, items_none}
use Rattle.shared_tree.proofs.beside.beside.Goals as goal

pub of_row-requires : goal.of_row-requires
of_row-requires g c = record { levels = rw c.in_ok-copied.ensures c.requires.right.levels; few = copied_few g.L.Leaf c.args.right.now c.in_ok-copied.field-0.items c.in_ok-copied.ensures c.requires.right.few; fits = rw c.in_ok-copied.ensures c.requires.right.fits }

pub returns-then-is_empty : goal.returns-then-is_empty
returns-then-is_empty g c =
    let none = items_none g.L.Leaf c.args.left.now (is_none _ c.if-is_empty.ensures) in
    rw none (rw c.in_ok-copied.ensures at c.of_row.ensures)

pub of_row-requires-then-is_empty-2-clause-levels : goal.of_row-requires-then-is_empty-2-clause-levels
of_row-requires-then-is_empty-2-clause-levels g c = rw c.in_ok-copied-2.ensures c.requires.left.levels

pub of_row-requires-then-is_empty-2-clause-few : goal.of_row-requires-then-is_empty-2-clause-few
of_row-requires-then-is_empty-2-clause-few g c = copied_few g.L.Leaf c.args.left.now c.in_ok-copied-2.field-0.items c.in_ok-copied-2.ensures c.requires.left.few

pub of_row-requires-then-is_empty-2-clause-fits : goal.of_row-requires-then-is_empty-2-clause-fits
of_row-requires-then-is_empty-2-clause-fits g c = rw c.in_ok-copied-2.ensures c.requires.left.fits

pub returns-then-is_empty-2 : goal.returns-then-is_empty-2
returns-then-is_empty-2 g c =
    let none = items_none g.L.Leaf c.args.right.now (is_none _ c.if-is_empty-2.ensures) in
    rw (none, append-nil) (rw c.in_ok-copied-2.ensures at c.of_row-then-is_empty-2.ensures)

pub after-requires : goal.after-requires
after-requires g c = record { nodes = bunch_of g.L.Leaf c.args.left_height c.args.left.now c.requires.left.levels (is_some _ c.if-is_empty.ensures) c.requires.left.few; row = bunch_of g.L.Leaf c.args.right_height c.args.right.now c.requires.right.levels (is_some _ c.if-is_empty-2.ensures) c.requires.right.few; lower = c.if-right_height-left_height.true; fits = c.requires.fits }

pub of_row-requires-then-right_height-left_height : goal.of_row-requires-then-right_height-left_height
of_row-requires-then-right_height-left_height g c = record { levels = c.in_ok-row.ensures.levels; few = omega (arith, c.in_ok-row.ensures.high, length-map c.in_ok-row.row.items arc_value); fits = rw c.in_ok-row.ensures.same c.requires.fits }

pub returns-in_ok-row : goal.returns-in_ok-row
returns-in_ok-row g c = rw c.in_ok-row.ensures.same at c.of_row-then-right_height-left_height.ensures

pub before-requires : goal.before-requires
before-requires g c = record { nodes = bunch_of g.L.Leaf c.args.right_height c.args.right.now c.requires.right.levels (is_some _ c.if-is_empty-2.ensures) c.requires.right.few; row = bunch_of g.L.Leaf c.args.left_height c.args.left.now c.requires.left.levels (is_some _ c.if-is_empty.ensures) c.requires.left.few; lower = omega (arith, c.if-right_height-left_height.false); fits = c.requires.fits }

pub of_row-requires-else-right_height-left_height-clause-levels : goal.of_row-requires-else-right_height-left_height-clause-levels
of_row-requires-else-right_height-left_height-clause-levels g c = c.in_ok-row-2.ensures.levels

pub of_row-requires-else-right_height-left_height-clause-few : goal.of_row-requires-else-right_height-left_height-clause-few
of_row-requires-else-right_height-left_height-clause-few g c = omega (arith, c.in_ok-row-2.ensures.high, length-map c.in_ok-row-2.row.items arc_value)

pub of_row-requires-else-right_height-left_height-clause-fits : goal.of_row-requires-else-right_height-left_height-clause-fits
of_row-requires-else-right_height-left_height-clause-fits g c = rw c.in_ok-row-2.ensures.same c.requires.fits

pub returns-in_ok-row-2 : goal.returns-in_ok-row-2
returns-in_ok-row-2 g c = rw c.in_ok-row-2.ensures.same at c.of_row-else-right_height-left_height.ensures
