-- What the positions of the union are at a revision.
use Rattle.std.specs.Prelude.{◌≡◌, ℕ, ◌+◌, ◌-◌, ◌<◌, ◌≤◌, Bool, not, ◌==◌, List, length, map, Some, slice_get}
use Rattle.std.specs.List.{filter, AllByRecursion}
use Rattle.plain_text.specs.Numbers.{has, flipped}
use Rattle.subset_runs.specs.Subset.{count}
use Rattle.plain_edits.specs.History.{Tagged, History, undo, undone, head, revision_at, is_there, is_visible}
pub use Rattle.plain_edits.specs.HistorySteps.{is_edit}
use Rattle.rev_list.specs.declared.edit.RevEdit.{RevEdit}
use Rattle.rev_list.specs.declared.step.RevStep.{RevStep}
use Rattle.rev_list.specs.declared.step.RevStep.TheVariants.{Edit, Undo}
use Rattle.rev_list.specs.Edit.{edit_revision}

-- whether the character is not visible at the revision
abbrev pub is_hidden : History → ℕ → Tagged → Bool
is_hidden history rev tagged = not (is_visible history.revisions rev tagged)

-- what of the present union is not visible at the revision
abbrev pub hidden_at : History → ℕ → List Bool
hidden_at history rev = map (is_hidden history rev) history.characters

-- the union as it was after the revision
abbrev pub union_at : History → ℕ → List Tagged
union_at history rev = filter (is_there rev) history.characters

-- what of that union is not visible at the revision
abbrev pub hidden_then : History → ℕ → List Bool
hidden_then history rev = map (is_hidden history rev) (union_at history rev)

-- which positions of its own union the revision inserted, and which it deleted
abbrev pub insertions_of : History → ℕ → List Bool
insertions_of history rev = map (λ tagged. tagged.inserted == rev) (union_at history rev)

abbrev pub deletions_of : History → ℕ → List Bool
deletions_of history rev = map (λ tagged. has tagged.deleted rev) (union_at history rev)

-- the edit is that of the revision, in positions of its own union
pub record IsEditAt (history : History) (rev : ℕ) (e : RevEdit) : Type 0 where
  pub said : revision_at history.revisions rev ≡ Some (edit_revision e)
  pub inserted : e.inserted ≡ insertions_of history rev
  pub deleted : e.deleted ≡ deletions_of history rev

-- the revision is an undo, whose set differs in these groups from the one before it; it inserts and deletes nothing
pub record IsUndoAt (history : History) (rev : ℕ) (groups : List ℕ) : Type 0 where
  pub said : revision_at history.revisions rev ≡ Some (undo (undone history.revisions rev))
  pub differs : undone history.revisions rev ≡ flipped (undone history.revisions (rev - 1)) groups
  pub inserts_none : count (insertions_of history rev) ≡ 0
  pub deletes_none : count (deletions_of history rev) ≡ 0

-- the revision is this edit, or this undo
abbrev pub IsRevisionAt : History → ℕ → RevStep → Type 0
IsRevisionAt history rev (Edit e) = IsEditAt history rev e
IsRevisionAt history rev (Undo groups) = IsUndoAt history rev groups

-- the revisions are those after the base, the oldest first
pub record AreRevisionsAfter (history : History) (base : ℕ) (revisions : List RevStep) : Type 0 where
  pub len : length revisions + base ≡ head history
  pub each : (k : ℕ) (revision : RevStep) → slice_get revisions k ≡ Some revision → IsRevisionAt history (base + 1 + k) revision

-- no revision deletes a character that came after the floor before the one that inserted it
abbrev pub IsDeletedLater : ℕ → Tagged → Type 0
IsDeletedLater floor tagged = floor < tagged.inserted → AllByRecursion (λ rev. tagged.inserted ≤ rev) tagged.deleted

-- and so it is of all characters
abbrev pub AreDeletedLater : History → Type 0
AreDeletedLater history = AllByRecursion (IsDeletedLater history.floor) history.characters

-- the revision is from the floor to the head
abbrev pub IsKeptAt : History → ℕ → Type 0
IsKeptAt history rev = (history.floor ≤ rev) × (rev ≤ head history)

-- the revision is above the head, which is `last`
abbrev pub IsUnknown : History → ℕ → ℕ → Type 0
IsUnknown history rev last = (head history < rev) × (last ≡ head history)

-- the revision is below the floor of the history, which is `floor`
abbrev pub IsCollected : History → ℕ → ℕ → Type 0
IsCollected history rev floor = (rev < history.floor) × (floor ≡ history.floor)
