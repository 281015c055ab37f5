use Rattle.std.proofs.Common.{◌-◌, ◌≤◌, drop, length}
use Rattle.number_runs.specs.Runs.{last_start}
use Rattle.number_runs.proofs.JoinLemmas.{IsTaking}
use Rattle.number_runs.proofs.run.add_up_to.Given as goal

abbrev pub invariant-loop-at : goal.invariant-loop-at
invariant-loop-at l = record {
  taking : IsTaking l.fn.runs.items l.runs.items (drop l.taken l.more) (drop l.at l.more);
  by : last_start 0 l.runs.items ≤ l.number;
  inside : l.at ≤ length l.more;
}

abbrev pub decreases-loop-at : goal.decreases-loop-at
decreases-loop-at l = length l.more - l.at
