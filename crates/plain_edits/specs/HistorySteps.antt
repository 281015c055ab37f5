-- The steps of a history, when each may come, and what is true of every history that they give.
use Rattle.std.specs.Prelude.{◌≡◌, ℕ, ◌+◌, ◌≤◌, Bool, true, false, ◌||◌, ◌==◌, List, [], ◌∷◌, Option, Some, None}
use Rattle.std.specs.List.{AllByRecursion}
use Rattle.plain_text.specs.Numbers.{has, IsRising}
use Rattle.plain_edits.specs.History.{Tagged, Revision, edit, undo, History, head, revision_at, IsSound}
use Rattle.plain_edits.specs.Edits.{PlainEdit, edited, undid, MayUndo}
use Rattle.plain_edits.specs.Collection.{is_clean, IsAtRest, collected_at, MayCollect}

-- a step: an edit, an undo of a set of groups, or a collection
pub data Step : Type 0 where
  edits : (e : PlainEdit) → Step
  undoes : (groups : List ℕ) → Step
  collects : (floor : ℕ) (groups : List ℕ) → Step

-- the history after a step
abbrev pub after_step : History → Step → History
after_step history (edits e) = edited history e
after_step history (undoes groups) = undid history groups
after_step history (collects floor groups) = collected_at history floor groups

-- the history after some steps, and the heads that they lead to, one after the other
abbrev pub after_steps : History → List Step → History
after_steps history [] = history
after_steps history (step ∷ steps) = after_steps (after_step history step) steps

abbrev pub heads_after : History → List Step → List ℕ
heads_after history [] = []
heads_after history (step ∷ steps) = head (after_step history step) ∷ heads_after (after_step history step) steps

-- an edit may come: its base is from the floor to the head, and its group is not collected
pub record MayEdit (history : History) (e : PlainEdit) : Type 0 where
  pub known : e.base ≤ head history
  pub reached : history.floor ≤ e.base
  pub is_open : has history.collected e.group ≡ false

-- an undo may come, and its set rises and does not have group 0
pub record MayUndoSet (history : History) (groups : List ℕ) : Type 0 where
  pub allowed : MayUndo history groups
  pub rising : IsRising groups

-- a step may come
abbrev pub MayCome : History → Step → Type 0
MayCome history (edits e) = MayEdit history e
MayCome history (undoes groups) = MayUndoSet history groups
MayCome history (collects floor groups) = MayCollect history floor groups

-- whether a revision is an edit
abbrev pub is_edit : Option Revision → Bool
is_edit None = false
is_edit (Some (edit base group priority author)) = true
is_edit (Some (undo groups)) = false

-- the character was loaded or inserted by an edit, and each of its deletions is by one, in rising order
pub record IsByEdits (revisions : List Revision) (tagged : Tagged) : Type 0 where
  pub inserted : (tagged.inserted == 0 || is_edit (revision_at revisions tagged.inserted)) ≡ true
  pub deleted : AllByRecursion (λ rev. is_edit (revision_at revisions rev) ≡ true) tagged.deleted
  pub rising : IsRising tagged.deleted

-- each edit has its base before it, where so many revisions stand before these
abbrev pub AreBased : ℕ → List Revision → Type 0
AreBased before [] = Unit {0}
AreBased before (edit base group priority author ∷ revisions) = (base ≤ before) × AreBased (before + 1) revisions
AreBased before (undo groups ∷ revisions) = AreBased (before + 1) revisions

-- an undo has a set that rises, without group 0
abbrev pub HasRisingSet : Revision → Type 0
HasRisingSet (edit base group priority author) = Unit {0}
HasRisingSet (undo groups) = IsRising groups × (has groups 0 ≡ false)

-- what is true of a loaded history and stays true by every step that may come: its characters are of edits that are there; each edit
-- has its base before it; undone sets rise, without group 0; the floor is a revision, and clean; and collected groups are at rest there
pub record IsWellFormed (history : History) : Type 0 where
  pub sound : IsSound history
  pub by_edits : AllByRecursion (IsByEdits history.revisions) history.characters
  pub based : AreBased 0 history.revisions
  pub sets : AllByRecursion HasRisingSet history.revisions
  pub floor : history.floor ≤ head history
  pub clean : is_clean history.revisions history.floor ≡ true
  pub rising : IsRising history.collected
  pub at_rest : AllByRecursion (IsAtRest history history.floor) history.collected
