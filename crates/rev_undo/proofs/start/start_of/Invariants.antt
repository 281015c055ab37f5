use Rattle.std.proofs.Common.{◌≤◌}
use Rattle.plain_text.specs.Numbers.{flipped}
use Rattle.plain_edits.specs.History.{head}
use Rattle.plain_edits.specs.Undo.{undone_now}
use Rattle.rev_undo.specs.Start.{AreOpen}
use Rattle.rev_undo.proofs.start.start_of.Given as goal

abbrev pub invariant-loop-alloc : goal.invariant-loop-alloc
invariant-loop-alloc l = record {
  kept : l.revs.floor ≤ l.at;
  known : l.at ≤ head l.revs;
  firsts : AreOpen l.revs (flipped (undone_now l.revs) l.differ) l.at l.firsts;
}

abbrev pub decreases-loop-alloc : goal.decreases-loop-alloc
decreases-loop-alloc l = l.at
