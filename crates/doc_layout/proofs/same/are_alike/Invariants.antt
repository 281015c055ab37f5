use Rattle.std.proofs.Common.{◌≡◌, true, take, drop}
use Rattle.std.specs.Cmp.Lexicographic.{pointwise}
use Rattle.plain_screen.specs.Touched.{is_same_but_number}
use Rattle.match_index.specs.Found.{runs_in}
use Rattle.doc_layout.specs.Layout.{layout}
use Rattle.doc_layout.proofs.same.are_alike.Given as goal

abbrev pub invariant-loop-index : goal.invariant-loop-index
invariant-loop-index g l =
    pointwise is_same_but_number
    (take l.index (drop l.at (layout (g.T.TextView.text_of l.shown.view.now) (g.T.TextView.pieces_of l.shown.view.now) l.shown.sel.now.regions (runs_in l.shown.results.now) l.shown.layers.now)))
    (take l.index (drop l.from (layout (g.T.TextView.text_of l.other.view.now) (g.T.TextView.pieces_of l.other.view.now) l.other.sel.now.regions (runs_in l.other.results.now) l.other.layers.now))) ≡
    true
