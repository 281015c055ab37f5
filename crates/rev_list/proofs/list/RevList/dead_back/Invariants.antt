use Rattle.std.proofs.Common.{◌≡◌, ◌≤◌, length}
use Rattle.std.specs.Arc.{arc_value}
use Rattle.rev_list.specs.Kept.{dead_now}
use Rattle.rev_list.specs.Settled.{settled_history}
use Rattle.rev_list.proofs.RecordLemmas.{until_record}
use Rattle.rev_list.proofs.list.RevList.dead_back.Given as goal

abbrev pub invariant-loop-at : goal.invariant-loop-at
invariant-loop-at l = record {
  from : l.first ≤ l.at;
  within : l.at ≤ length l.self-inside.records;
  so_far : l.dead ≡ dead_now (until_record (settled_history (arc_value l.self-inside.settled)) l.self-inside.records l.at);
}

abbrev pub decreases-loop-at : goal.decreases-loop-at
decreases-loop-at l = l.at
