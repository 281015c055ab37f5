use Rattle.std.proofs.Common.{◌+◌, ◌-◌}
use Rattle.plain_screen.specs.View.{start_of}
use Rattle.match_index.specs.Found.{runs_in}
use Rattle.doc_layout.specs.Layout.{layout}
use Rattle.line_stays.proofs.PutLemmas.{AreMarked}
use Rattle.line_stays.proofs.parts.put_marked.Given as goal

abbrev pub invariant-loop-at : goal.invariant-loop-at
invariant-loop-at g l =
    AreMarked (g.T.TextView.text_of l.before.view.now) (g.T.TextView.pieces_of l.before.view.now)
    (layout (g.T.TextView.text_of l.before.view.now) (g.T.TextView.pieces_of l.before.view.now) l.before.sel.now.regions (runs_in l.before.results.now) l.before.layers.now)
    (layout (g.T.TextView.text_of l.after.view.now) (g.T.TextView.pieces_of l.after.view.now) l.after.sel.now.regions (runs_in l.after.results.now) l.after.layers.now)
    l.marks l.part.old l.part.new l.part.n (start_of (g.T.TextView.pieces_of l.before.view.now) l.part.old) l.initial.stays l.at l.gap l.walk l.stays

abbrev pub decreases-loop-at : goal.decreases-loop-at
decreases-loop-at g l = l.part.old + l.part.n - l.at
