use Rattle.std.proofs.Common.{◌≡◌, ◌≤◌, ◌-◌}
use Rattle.std.specs.Arc.{arc_value}
use Rattle.rev_list.specs.Groups.{AreFirstEdits}
use Rattle.rev_list.specs.Settled.{settled_history}
use Rattle.rev_list.proofs.RecordLemmas.{until_record}
use Rattle.rev_list.proofs.list.RevList.firsts_until.Given as goal

abbrev pub invariant-loop-at : goal.invariant-loop-at
invariant-loop-at l = record {
  within : l.at ≤ l.count;
  so_far : AreFirstEdits (until_record (settled_history (arc_value l.self-inside.settled)) l.self-inside.records l.at).revisions l.firsts;
}

abbrev pub decreases-loop-at : goal.decreases-loop-at
decreases-loop-at l = l.count - l.at
