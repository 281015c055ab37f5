use Rattle.std.proofs.Common.{◌+◌, ◌-◌}
use Rattle.match_index.specs.Found.{runs_in}
use Rattle.doc_layout.specs.Layout.{layout}
use Rattle.line_stays.proofs.PutLemmas.{ArePut}
use Rattle.line_stays.proofs.parts.put_stays.Given as goal

abbrev pub invariant-loop-run : goal.invariant-loop-run
invariant-loop-run g l =
    ArePut (g.T.TextView.text_of l.before.view.now) (g.T.TextView.pieces_of l.before.view.now)
    (layout (g.T.TextView.text_of l.before.view.now) (g.T.TextView.pieces_of l.before.view.now) l.before.sel.now.regions (runs_in l.before.results.now) l.before.layers.now)
    (layout (g.T.TextView.text_of l.after.view.now) (g.T.TextView.pieces_of l.after.view.now) l.after.sel.now.regions (runs_in l.after.results.now) l.after.layers.now)
    l.had l.part.old l.part.new l.part.n l.initial.stays l.at l.stays

abbrev pub decreases-loop-run : goal.decreases-loop-run
decreases-loop-run g l = l.part.old + l.part.n - l.at
