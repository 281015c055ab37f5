use Rattle.std.proofs.Common.{◌≡◌, ◌-◌, ◌≤◌}
use Rattle.match_index.specs.Inner.{IsWalked}
use Rattle.match_index.proofs.search.Search.go_on.Given as goal

abbrev pub invariant-loop-walked : goal.invariant-loop-walked
invariant-loop-walked l = record {
  walked : IsWalked l.self l.walked;
  ahead : l.fn.walked.at ≤ l.walked.at;
  from : l.walked.from ≡ l.fn.walked.from;
  start : l.walked.start ≡ l.fn.walked.start;
}

abbrev pub decreases-loop-walked : goal.decreases-loop-walked
decreases-loop-walked l = l.to - l.walked.at
