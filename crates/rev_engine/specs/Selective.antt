-- The law of selective undo.
use Rattle.std.specs.Prelude.{◌≡◌, ℕ, ◌+◌, ◌||◌, false, List}
use Rattle.std.specs.List.{AllByRecursion}
use Rattle.plain_text.specs.Numbers.{has}
use Rattle.plain_edits.specs.History.{History, head, undone, text_at, IsSound}
use Rattle.plain_edits.specs.HistorySteps.{MayUndoSet}
use Rattle.plain_edits.specs.Edits.{undid}
use Rattle.plain_edits.specs.Undo.{undone_now, undone_with, UndoesSelected}
use Rattle.rev_undo.specs.Allowed.{HasEdit}
use Rattle.rev_engine.specs.Asked.{IsGiven}

-- the history after an undo of these groups beside those that are undone, and after one that undoes the former groups alone again
abbrev pub undid_with : History → List ℕ → History
undid_with history more = undid history (undone_with history more)

abbrev pub undid_back : History → List ℕ → History
undid_back history more = undid (undid_with history more) (undone_now history)

-- an undo of some groups more, and one of the former groups again
pub record IsSelective (history : History) (more : List ℕ) : Type 0 where
  -- a group is undone then where it was or is one of them
  pub groups : (group : ℕ) →
      has (undone (undid_with history more).revisions (head history + 1)) group ≡ (has (undone_now history) group || has more group)
  -- each character is hidden, shown and given back as their edits say, and no other
  pub each : AllByRecursion (UndoesSelected history more) history.characters
  -- the former text is back
  pub back : text_at (undid_back history more) (head history + 2) ≡ text_at history (head history)

-- some groups more: each counts from 1 and has an edit, and none is collected
pub record AreMore (history : History) (more : List ℕ) : Type 0 where
  pub known : AllByRecursion (HasEdit history) more
  pub not_collected : AllByRecursion (λ group. has history.collected group ≡ false) more

-- THEY MAY BE UNDONE beside those that are, in each history that calls give
abbrev pub MoreMayBeUndone : Type 0
MoreMayBeUndone = (limit : ℕ) (history : History) (more : List ℕ) → IsGiven limit history → AreMore history more →
    MayUndoSet history (undone_with history more)

-- SELECTIVE UNDO: any groups may be undone, in whatever order their edits came, and what is not theirs stays
abbrev pub UndoIsSelective : Type 0
UndoIsSelective = (history : History) (more : List ℕ) → IsSound history → IsSelective history more
