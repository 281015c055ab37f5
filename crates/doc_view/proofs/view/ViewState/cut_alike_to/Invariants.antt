use Rattle.std.proofs.Common.{◌≡◌, ◌-◌, ◌≤◌, take}
use Rattle.doc_view.specs.View.{pieces_in}
use Rattle.doc_view.proofs.view.ViewState.cut_alike_to.Given as goal

abbrev pub invariant-loop-at : goal.invariant-loop-at
invariant-loop-at l = record {
  inside : l.at ≤ l.line;
  alike : take l.at (pieces_in l.self) ≡ take l.at (pieces_in l.next);
}

abbrev pub decreases-loop-at : goal.decreases-loop-at
decreases-loop-at l = l.line - l.at
