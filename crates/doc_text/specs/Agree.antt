-- STACK AND HISTORY AGREE: what holds of the undo groups of a document, step after step.
use Rattle.std.specs.Prelude.{◌≡◌, ℕ, ◌≤◌, Bool, true, not, ◌&&◌, nat_lt, nat_le, List, length, take, Option, Some, None, ⊤}
use Rattle.std.specs.List.{list_any}
use Rattle.plain_text.specs.Numbers.{has}
use Rattle.plain_edits.specs.History.{Revision, undone}
use Rattle.plain_edits.specs.Edits.{is_edit_of}
use Rattle.undo_groups.specs.Groups.{Groups, IsStack, is_known, next_undo}
use Rattle.edit_groups.specs.declared.typing.Typing.{Typing}

-- whether the group was given out
abbrev pub is_given : Groups → ℕ → Bool
is_given groups group = nat_lt 0 group && nat_le group groups.given

-- the run's group is the newest: the last that was given out, and the one that an undo takes
abbrev pub IsNewest : Groups → Option Typing → Type 0
IsNewest groups None = ⊤
IsNewest groups (Some run) = (run.group ≡ groups.given) × (next_undo groups ≡ Some run.group)

-- the groups were given out in the order of their first edits: where one has an edit by a revision, so has each before it
abbrev pub AreInOrder : List Revision → Type 0
AreInOrder revisions = (rev low high : ℕ) → 1 ≤ low → low ≤ high → list_any (is_edit_of high) (take rev revisions) ≡ true →
    list_any (is_edit_of low) (take rev revisions) ≡ true

-- the groups of a stack, and a run of typing, go with a history of these revisions and collected groups
pub record Agree (revisions : List Revision) (collected : List ℕ) (groups : Groups) (typing : Option Typing) : Type 0 where
  pub stack : IsStack groups
  -- what the stack has undone is what is undone at the head
  pub undone : undone revisions (length revisions) ≡ groups.undone
  -- the groups that were given out are those that have an edit, and so there are at most as many as revisions
  pub given : (group : ℕ) → list_any (is_edit_of group) revisions ≡ is_given groups group
  pub few : groups.given ≤ length revisions
  pub in_order : AreInOrder revisions
  -- the stack knows those of them that are not collected, and no other is; so no live group is collected
  pub known : (group : ℕ) → is_known groups group ≡ (is_given groups group && not (has collected group))
  pub collected_given : (group : ℕ) → has collected group ≡ true → is_given groups group ≡ true
  pub newest : IsNewest groups typing
