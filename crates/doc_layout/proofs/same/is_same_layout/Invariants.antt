use Rattle.std.proofs.Common.{◌≡◌, true, take}
use Rattle.std.specs.Cmp.Lexicographic.{pointwise}
use Rattle.plain_screen.specs.SameLayout.{is_same_line}
use Rattle.match_index.specs.Found.{runs_in}
use Rattle.doc_layout.specs.Layout.{layout}
use Rattle.doc_layout.proofs.same.is_same_layout.Given as goal

abbrev pub invariant-loop-index : goal.invariant-loop-index
invariant-loop-index g l =
    pointwise is_same_line
    (take l.index (layout (g.T.TextView.text_of l.shown.view.now) (g.T.TextView.pieces_of l.shown.view.now) l.shown.sel.now.regions (runs_in l.shown.results.now) l.shown.layers.now))
    (take l.index (layout (g.T.TextView.text_of l.other.view.now) (g.T.TextView.pieces_of l.other.view.now) l.other.sel.now.regions (runs_in l.other.results.now) l.other.layers.now)) ≡
    true
