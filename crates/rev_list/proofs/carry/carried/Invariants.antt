use Rattle.std.proofs.Common.{◌≡◌, length}
use Rattle.std.specs.List.{fold}
use Rattle.rev_list.specs.Kept.{GrowFrom}
use Rattle.rev_list.specs.Inner.{dead_later}
use Rattle.rev_list.proofs.carry.carried.Given as goal

abbrev pub invariant-loop-revision : goal.invariant-loop-revision
invariant-loop-revision l = record {
  can_next : (goal.iterator-loop-revision).can_next l.revision-iterator;
  is_finite : (goal.iterator-loop-revision).is_finite l.revision-iterator;
  grow : GrowFrom (length l.out) l.revision-iterator;
  so_far : fold dead_later l.out l.revision-iterator ≡ fold dead_later l.initial.out l.fn.revisions;
}
