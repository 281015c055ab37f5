use Rattle.std.proofs.Common.{◌≡◌, ◌+◌, ◌++◌, drop, length}
use Rattle.line_cache.specs.Ops.{lines_at}
use Rattle.line_cache.specs.Steps.{lines_in}
use Rattle.match_index.specs.Found.{runs_in}
use Rattle.doc_layout.specs.Layout.{layout}
use Rattle.line_updates.proofs.plan.lines_told.Given as goal

abbrev pub invariant-loop-step : goal.invariant-loop-step
invariant-loop-step g l = record {
  room : l.at + lines_in (drop l.step-index l.step-items) ≡ length (g.T.TextView.pieces_of l.shown.view.now);
  so_far : l.lines ++ lines_at (drop l.step-index l.step-items)
      (drop l.at (layout (g.T.TextView.text_of l.shown.view.now) (g.T.TextView.pieces_of l.shown.view.now) l.shown.sel.now.regions (runs_in l.shown.results.now) l.shown.layers.now)) ≡
      lines_at l.step-items
      (layout (g.T.TextView.text_of l.shown.view.now) (g.T.TextView.pieces_of l.shown.view.now) l.shown.sel.now.regions (runs_in l.shown.results.now) l.shown.layers.now);
}
