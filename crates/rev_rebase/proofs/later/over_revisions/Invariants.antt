use Rattle.std.proofs.Common.{◌≡◌, length}
use Rattle.std.specs.List.{fold}
use Rattle.subset_runs.specs.Subset.{count}
use Rattle.rev_rebase.specs.Inner.{Grow, deletions_after, insertions_after}
use Rattle.rev_rebase.proofs.later.over_revisions.Given as goal

abbrev pub invariant-loop-revision : goal.invariant-loop-revision
invariant-loop-revision l = record {
  can_next : (goal.iterator-loop-revision).can_next l.revision-iterator;
  is_finite : (goal.iterator-loop-revision).is_finite l.revision-iterator;
  insertions_grow : Grow (count l.inserted) (length l.inserted) l.revision-iterator;
  deletions_grow : Grow 0 (length l.deleted) l.revision-iterator;
  insertions : fold (insertions_after l.rank) l.inserted l.revision-iterator ≡ fold (insertions_after l.rank) l.initial.inserted l.fn.revisions;
  deletions : fold deletions_after l.deleted l.revision-iterator ≡ fold deletions_after l.initial.deleted l.fn.revisions;
}
