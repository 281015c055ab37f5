use Rattle.std.proofs.Common.{◌≤◌, drop, length}
use Rattle.number_runs.proofs.JoinLemmas.{IsJoined}
use Rattle.number_runs.proofs.run.joined.Given as goal

abbrev pub invariant-loop-number : goal.invariant-loop-number
invariant-loop-number l = record {
  can_next : (goal.iterator-loop-number).can_next l.number-iterator;
  is_finite : (goal.iterator-loop-number).is_finite l.number-iterator;
  inside : l.taken ≤ length l.first;
  so_far : IsJoined l.first l.runs.items (drop l.taken l.first) l.number-iterator l.more.keys;
}
