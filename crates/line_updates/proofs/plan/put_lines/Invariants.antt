use Rattle.std.proofs.Common.{◌≡◌, ◌++◌, ◌-◌, ◌≤◌}
use Rattle.std.specs.Prelude.{slice_range}
use Rattle.match_index.specs.Found.{runs_in}
use Rattle.doc_layout.specs.Layout.{layout}
use Rattle.line_updates.proofs.plan.put_lines.Given as goal

abbrev pub invariant-loop-at : goal.invariant-loop-at
invariant-loop-at g l = record {
  low : l.from ≤ l.at;
  high : l.at ≤ l.to;
  made : l.lines ≡ l.initial.lines ++ slice_range (layout (g.T.TextView.text_of l.shown.view.now) (g.T.TextView.pieces_of l.shown.view.now) l.shown.sel.now.regions (runs_in l.shown.results.now) l.shown.layers.now)
      l.from l.at;
}

abbrev pub decreases-loop-at : goal.decreases-loop-at
decreases-loop-at g l = l.to - l.at
