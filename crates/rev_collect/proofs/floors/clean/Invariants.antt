use Rattle.std.proofs.Common.{◌≡◌}
use Rattle.std.specs.List.{list_all}
use Rattle.plain_edits.specs.Collection.{is_clean}
use Rattle.rev_collect.specs.Inner.{is_step_from}
use Rattle.rev_collect.proofs.floors.clean.Given as goal

abbrev pub invariant-loop-revision : goal.invariant-loop-revision
invariant-loop-revision l = record {
  can_next : (goal.iterator-loop-revision).can_next l.revision-iterator;
  is_finite : (goal.iterator-loop-revision).is_finite l.revision-iterator;
  so_far : list_all (is_step_from l.floor) l.revision-iterator ≡ is_clean l.revs.revisions l.floor;
}
