use Rattle.std.proofs.Common.{◌≡◌, ◌+◌, ◌++◌, drop, length}
use Rattle.line_cache.specs.Steps.{lines_in}
use Rattle.line_updates.specs.Inner.{numbers_told}
use Rattle.line_updates.proofs.plan.numbers_of.Given as goal

abbrev pub invariant-loop-step : goal.invariant-loop-step
invariant-loop-step g l = record {
  room : l.at + lines_in (drop l.step-index l.step-items) ≡ length (g.T.TextView.pieces_of l.shown.view.now);
  so_far : l.numbers ++ numbers_told (drop l.step-index l.step-items) (drop l.at (g.T.TextView.pieces_of l.shown.view.now)) ≡
      numbers_told l.step-items (g.T.TextView.pieces_of l.shown.view.now);
}
