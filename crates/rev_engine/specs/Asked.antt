-- The steps that are asked of an engine, when each may come, and which histories they give.
use Rattle.std.specs.Prelude.{◌≡◌, ◌≢◌, ℕ, ◌-◌, ◌^◌, ◌<◌, ◌≤◌, true, false, ◌||◌, List, [], ◌∷◌, take, ⊤}
use Rattle.std.specs.List.{fold, list_any, AllByRecursion}
use Rattle.plain_text.specs.Numbers.{has}
use Rattle.plain_edits.specs.History.{History, head, loaded}
use Rattle.plain_edits.specs.HistorySteps.{MayUndoSet}
use Rattle.plain_edits.specs.Edits.{is_edit_of, undid}
use Rattle.plain_edits.specs.Undo.{undone_now}
use Rattle.plain_edits.specs.Collection.{collected_at, MayCollect}
use Rattle.collection_laws.specs.MayForget.{MayForget}
use Rattle.rev_undo.specs.Allowed.{HasEdit}
use Rattle.rev_engine.specs.Given.{AskedEdit, IsTaken, after}

-- a step: an edit that is asked for, a set of groups that is undone, or a collection
pub data Asked : Type 0 where
  asks : (asked : AskedEdit) → Asked
  undoes : (groups : List ℕ) → Asked
  collects : (floor : ℕ) (groups : List ℕ) → Asked

-- the history after a step, and after many, one after the other
abbrev pub after_asked : History → Asked → History
after_asked history (asks asked) = after history asked
after_asked history (undoes groups) = undid history groups
after_asked history (collects floor groups) = collected_at history floor groups

abbrev pub after_all_asked : History → List Asked → History
after_all_asked history steps = fold after_asked history steps

-- the group counts from 1 and has an edit; the edits of a collected one may be forgotten
abbrev pub IsKnown : History → ℕ → Type 0
IsKnown history group = (0 < group) × ((list_any (is_edit_of group) history.revisions || has history.collected group) ≡ true)

-- the group counts from 1 and has its first edit after the revision: it has one, and none by then
pub record BeginsAfter (history : History) (group rev : ℕ) : Type 0 where
  pub counts : 0 < group
  pub some : list_any (is_edit_of group) history.revisions ≡ true
  pub none : list_any (is_edit_of group) (take rev history.revisions) ≡ false

-- the undo may be asked for: each group of its set is known, and the next revision has a number
pub record MayAskUndo (history : History) (groups : List ℕ) : Type 0 where
  pub known : AllByRecursion (IsKnown history) groups
  pub has_number : head history < 2 ^ 63 - 1

-- the set and what is undone at the head differ at a collected group
abbrev pub DiffersAt : History → List ℕ → ℕ → Type 0
DiffersAt history groups group = (has history.collected group ≡ true) × (has groups group ≢ has (undone_now history) group)

-- FROZEN: this is the least collected group at which they differ
pub record IsFrozenAt (history : History) (groups : List ℕ) (group : ℕ) : Type 0 where
  pub differs : DiffersAt history groups group
  pub least : (other : ℕ) → DiffersAt history groups other → group ≤ other

-- the undo is taken
pub record IsUndoTaken (history : History) (groups : List ℕ) : Type 0 where
  pub allowed : MayUndoSet history groups
  pub has_number : head history < 2 ^ 63 - 1

-- the collection is taken: it may come, at any clean floor
abbrev pub IsCollectionTaken : History → ℕ → List ℕ → Type 0
IsCollectionTaken history floor groups = MayCollect history floor groups

-- a step is taken
abbrev pub IsTakenStep : ℕ → History → Asked → Type 0
IsTakenStep limit history (asks asked) = IsTaken limit history asked
IsTakenStep limit history (undoes groups) = IsUndoTaken history groups
IsTakenStep limit history (collects floor groups) = IsCollectionTaken history floor groups

-- each step is taken in its turn
abbrev pub AreTakenSteps : ℕ → History → List Asked → Type 0
AreTakenSteps limit history [] = ⊤
AreTakenSteps limit history (step ∷ steps) = IsTakenStep limit history step × AreTakenSteps limit (after_asked history step) steps

-- THE HISTORIES that the calls of an engine with this limit give: a loaded text, and steps that were taken
pub record IsGiven (limit : ℕ) (history : History) : Type 0 where
  pub text : List ℕ
  pub steps : List Asked
  pub taken : AreTakenSteps limit (loaded text) steps
  pub is : history ≡ after_all_asked (loaded text) steps

-- WHAT EACH STEP KEEPS, and all that the proofs of the engine use of such a history: it may forget, and each group that is undone at the
-- head has an edit
pub record IsOfEngine (history : History) : Type 0 where
  pub forgets : MayForget history
  pub undone_known : AllByRecursion (HasEdit history) (undone_now history)
