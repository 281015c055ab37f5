-- What an edit and an undo add to a history, where they say positions of the union.
use Rattle.std.specs.Prelude.{◌≡◌, ℕ, ◌+◌, ◌-◌, ◌^◌, ◌<◌, ◌≤◌, Bool, true, false, if◌then◌else◌, List, [], ◌∷◌, ◌++◌, length}
use Rattle.std.specs.List.{AllByRecursion}
use Rattle.subset_runs.specs.Subset.{count}
use Rattle.plain_text.specs.Numbers.{has, flipped, IsRising}
use Rattle.plain_edits.specs.History.{inserted_by, Tagged, Revision, edit, History, head}
use Rattle.plain_edits.specs.Edits.{with_deletion, undid}
use Rattle.plain_edits.specs.Collection.{is_group}
use Rattle.plain_edits.specs.Undo.{undone_now}
use Rattle.rev_list.specs.Under.{hidden_under}
use Rattle.rev_list.specs.declared.edit.RevEdit.{RevEdit}
use Rattle.rev_list.specs.declared.step.RevStep.{RevStep}
use Rattle.rev_list.specs.declared.step.RevStep.TheVariants.{Edit, Undo}

-- the revision of an edit
abbrev pub edit_revision : RevEdit → Revision
edit_revision e = edit e.base e.group e.priority e.author

-- a character that the revision inserts
abbrev pub new_by : ℕ → Tagged
new_by rev = inserted_by rev 0

-- the items of a longer list: `new` at the positions `by`, and the old ones in order at the others
abbrev pub with_new : {X : Type 0} → X → List X → List Bool → List X
with_new new xs [] = []
with_new new xs (true ∷ by) = new ∷ with_new new xs by
with_new new [] (false ∷ by) = []
with_new new (x ∷ xs) (false ∷ by) = x ∷ with_new new xs by

-- the characters, where one more revision deletes those at the positions `at`
abbrev pub with_deleted : ℕ → List Tagged → List Bool → List Tagged
with_deleted rev [] at = []
with_deleted rev (tagged ∷ characters) [] = tagged ∷ characters
with_deleted rev (tagged ∷ characters) (flag ∷ at) =
    (if flag then with_deletion rev tagged else tagged) ∷ with_deleted rev characters at

-- THE EDIT STEP, in positions of the union
abbrev pub after_edit : History → RevEdit → History
after_edit history e = record history {
  characters = with_deleted (head history + 1) (with_new (new_by (head history + 1)) history.characters e.inserted) e.deleted;
  revisions = history.revisions ++ edit_revision e ∷ [];
}

-- the undone groups of an undo, by those in which they differ from the groups that are undone at the head
abbrev pub undone_by : History → List ℕ → List ℕ
undone_by history groups = flipped (undone_now history) groups

-- the step of a revision: THE EDIT STEP, or THE UNDO STEP with the groups in which its set differs
abbrev pub after_revision : History → RevStep → History
after_revision history (Edit e) = after_edit history e
after_revision history (Undo groups) = undid history (undone_by history groups)

-- the edit may come next
pub record MayPush (history : History) (e : RevEdit) : Type 0 where
  -- its subsets speak of the union after it
  pub grown : length e.inserted ≡ length history.characters + count e.inserted
  pub same_length : length e.deleted ≡ length e.inserted
  -- its base is kept, and its group counts from 1 and is not collected
  pub base_kept : history.floor ≤ e.base
  pub base_known : e.base ≤ head history
  pub group_counts : 1 ≤ e.group
  pub group_kept : has history.collected e.group ≡ false
  pub has_number : head history < 2 ^ 63 - 1

-- the group counts from 1, and has an edit or is collected
abbrev pub IsKnownGroup : History → ℕ → Type 0
IsKnownGroup history group = (0 < group) × (is_group history group ≡ true)

-- the groups may be undone: each is known, they agree with what is undone on each collected group, and they rise
pub record MayUndoGroups (history : History) (groups : List ℕ) : Type 0 where
  pub known : AllByRecursion (IsKnownGroup history) groups
  pub frozen : AllByRecursion (λ group. has groups group ≡ has (undone_now history) group) history.collected
  pub rising : IsRising groups

-- the undo may come next: its groups may be undone, and `dead` is what of the union it hides
pub record MayPushUndo (history : History) (groups : List ℕ) (dead : List Bool) : Type 0 where
  pub allowed : MayUndoGroups history groups
  pub hidden : dead ≡ hidden_under history groups (head history)
  pub has_number : head history < 2 ^ 63 - 1
