use Rattle.std.proofs.Common.{◌≡◌, length}
use Rattle.std.specs.List.{fold}
use Rattle.plain_text.specs.Numbers.{flipped}
use Rattle.rev_undo.specs.Under.{SpeakFrom, hidden_after}
use Rattle.rev_undo.proofs.carry.carried_under.Given as goal

abbrev pub invariant-loop-revision : goal.invariant-loop-revision
invariant-loop-revision l = record {
  can_next : (goal.iterator-loop-revision).can_next l.revision-iterator;
  is_finite : (goal.iterator-loop-revision).is_finite l.revision-iterator;
  speak : SpeakFrom (length l.out) l.revision-iterator;
  so_far : fold (hidden_after (flipped l.undone l.differ)) l.out l.revision-iterator ≡ fold (hidden_after (flipped l.undone l.differ)) l.initial.out l.fn.revisions;
}
