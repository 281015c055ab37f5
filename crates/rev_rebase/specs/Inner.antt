-- What private functions say: sets carried over one revision after the other.
use Rattle.std.specs.Prelude.{◌≡◌, ℕ, ◌+◌, ◌^◌, ◌<◌, Bool, true, not, List, [], ◌∷◌, length}
use Rattle.std.specs.List.{fold}
use Rattle.subset_runs.specs.Subset.{count, expand}
use Rattle.delta_core.specs.Carry.{carried}
use Rattle.rev_list.specs.declared.edit.RevEdit.{RevEdit}
use Rattle.rev_list.specs.declared.step.RevStep.{RevStep}
use Rattle.rev_list.specs.declared.step.RevStep.TheVariants.{Edit, Undo}
use Rattle.plain_edits.specs.declared.rank.Rank.{Rank}
use Rattle.plain_edits.specs.Rank.{is_lower}

-- the rank of what an edit inserts
abbrev pub step_rank : RevEdit → Rank
step_rank e = record { priority = e.priority; author = e.author }

-- insertions of a rank, after a later revision: right of an edit's insertions at the same gap where the rank is not lower; an undo moves
-- nothing
abbrev pub insertions_after : Rank → List Bool → RevStep → List Bool
insertions_after rank ins (Edit e) = carried (not (is_lower rank (step_rank e))) ins e.inserted
insertions_after rank ins (Undo groups) = ins

-- deletions after a later revision: they stay at their characters
abbrev pub deletions_after : List Bool → RevStep → List Bool
deletions_after del (Edit e) = expand del e.inserted
deletions_after del (Undo groups) = del

-- positions of a text of this length, of which `own` are new, may be carried over the revisions: each edit grows the union before it,
-- the new positions beside, and all lengths are numbers of the machine
abbrev pub Grow : ℕ → ℕ → List RevStep → Type 0
Grow own len [] = Unit {0}
Grow own len (Edit e ∷ revisions) =
    (len + count e.inserted ≡ length e.inserted + own) × (length e.inserted + own < 2 ^ 64) × Grow own (length e.inserted + own) revisions
Grow own len (Undo groups ∷ revisions) = Grow own len revisions

-- insertions and deletions in a text, over what is dead there and then over the revisions
abbrev pub insertions_over_all : List Bool → List Bool → List RevStep → Rank → List Bool
insertions_over_all own dead revisions rank = fold (insertions_after rank) (carried true own dead) revisions

abbrev pub deletions_over_all : List Bool → List Bool → List RevStep → List Bool
deletions_over_all dropped dead revisions = fold deletions_after (expand dropped dead) revisions

-- insertions and deletions in a text may be carried over what is dead there and then over the revisions
pub record GoTogether (own dropped dead : List Bool) (revisions : List RevStep) (rank : Rank) : Type 0 where
  pub beside : length own + count dead ≡ length dead + count own
  pub beside_bound : length own + count dead < 2 ^ 64
  pub dropped_beside : length dropped + count dead ≡ length dead
  pub insertions_grow : Grow (count (carried true own dead)) (length (carried true own dead)) revisions
  pub deletions_grow : Grow 0 (length (expand dropped dead)) revisions
  pub same_length : length (deletions_over_all dropped dead revisions) + count (insertions_over_all own dead revisions rank) ≡
      length (insertions_over_all own dead revisions rank)
