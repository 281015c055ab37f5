use Rattle.edit_ops.proofs.HeadLemmas.{IsBare}
use Rattle.edit_ops.proofs.numbered.head_of.Given as goal

abbrev pub invariant-loop-number : goal.invariant-loop-number
invariant-loop-number g l = IsBare (g.T.TextView.pieces_of l.view) l.line l.index

abbrev pub decreases-loop-number : goal.decreases-loop-number
decreases-loop-number g l = l.index
