use Rattle.std.proofs.Common.{◌≡◌, ◌≤◌, ◌-◌}
use Rattle.std.specs.Arc.{arc_value}
use Rattle.plain_edits.specs.Undo.{undone_now}
use Rattle.rev_list.specs.Settled.{settled_history}
use Rattle.rev_list.proofs.RecordLemmas.{until_record}
use Rattle.rev_list.proofs.list.RevList.undone_until.Given as goal

abbrev pub invariant-loop-at : goal.invariant-loop-at
invariant-loop-at l = record {
  within : l.at ≤ l.count;
  so_far : l.undone ≡ undone_now (until_record (settled_history (arc_value l.self-inside.settled)) l.self-inside.records l.at);
}

abbrev pub decreases-loop-at : goal.decreases-loop-at
decreases-loop-at l = l.count - l.at
