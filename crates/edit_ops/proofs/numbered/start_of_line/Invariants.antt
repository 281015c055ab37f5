use Rattle.std.proofs.Common.{◌+◌, ◌-◌, ◌≤◌, length}
use Rattle.plain_screen.specs.View.{ArePieces}
use Rattle.edit_ops.proofs.HeadLemmas.{StandsBetween}
use Rattle.edit_ops.proofs.numbered.start_of_line.Given as goal

abbrev pub invariant-loop-low : goal.invariant-loop-low
invariant-loop-low g l = record {
  inside : l.high ≤ length (g.T.TextView.pieces_of l.view);
  sound : ArePieces (g.T.TextView.text_of l.view) (g.T.TextView.pieces_of l.view);
  stands : StandsBetween (g.T.TextView.pieces_of l.view) (l.line + 1) l.low l.high;
}

abbrev pub decreases-loop-low : goal.decreases-loop-low
decreases-loop-low g l = l.high - l.low
