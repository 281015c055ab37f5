use Rattle.std.proofs.Common.{◌≡◌, ◌-◌, ◌≤◌, [], ◌++◌, drop}
use Rattle.plain_screen.specs.Plan.{update_plan}
use Rattle.plain_screen.proofs.callers.PlanLemmas.{plan_from}
use Rattle.match_index.specs.Found.{runs_in}
use Rattle.doc_layout.specs.Layout.{layout}
use Rattle.doc_layout.proofs.plan.ops_of.Given as goal

abbrev pub invariant-loop-at : goal.invariant-loop-at
invariant-loop-at g l = record {
  inside : l.at ≤ l.len;
  so_far : l.ops ++ plan_from l.asked.window l.asked.request l.at 0
      (drop l.at (layout (g.T.TextView.text_of l.shown.view.now) (g.T.TextView.pieces_of l.shown.view.now) l.shown.sel.now.regions (runs_in l.shown.results.now) l.shown.layers.now)) ≡
      update_plan l.asked.window l.asked.request
      (layout (g.T.TextView.text_of l.shown.view.now) (g.T.TextView.pieces_of l.shown.view.now) l.shown.sel.now.regions (runs_in l.shown.results.now) l.shown.layers.now) [];
}

abbrev pub decreases-loop-at : goal.decreases-loop-at
decreases-loop-at g l = l.len - l.at
