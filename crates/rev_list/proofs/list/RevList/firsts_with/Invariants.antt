use Rattle.std.proofs.Common.{◌≤◌, ◌-◌, length}
use Rattle.rev_list.specs.Groups.{AreFirstEdits}
use Rattle.rev_list.proofs.RecordLemmas.{until_record}
use Rattle.rev_list.proofs.list.RevList.firsts_with.Given as goal

abbrev pub invariant-loop-at : goal.invariant-loop-at
invariant-loop-at l = record {
  within : l.at ≤ length l.later;
  so_far : AreFirstEdits (until_record l.self l.later l.at).revisions l.firsts;
}

abbrev pub decreases-loop-at : goal.decreases-loop-at
decreases-loop-at l = length l.later - l.at
