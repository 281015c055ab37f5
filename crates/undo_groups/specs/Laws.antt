-- What holds of every stack, step after step.
use Rattle.std.specs.Prelude.{◌≡◌, ℕ, ◌<◌, true, length}
use Rattle.plain_text.specs.Numbers.{has}
use Rattle.undo_groups.specs.Groups.{Groups, after_opening, redone_one, undone_one, IsStack}

-- a redo directly after an undo gives the groups back as they were
abbrev pub RedoTakesUndoBack : Type 0
RedoTakesUndoBack = (s : Groups) → IsStack s → 0 < s.index → redone_one (undone_one s) ≡ s

-- an undo directly after a redo gives the groups back as they were
abbrev pub UndoTakesRedoBack : Type 0
UndoTakesRedoBack = (s : Groups) → IsStack s → s.index < length s.live → undone_one (redone_one s) ≡ s

-- after a new group no redo is left, and whatever was undone by then stays undone
abbrev pub OpeningEndsRedo : Type 0
OpeningEndsRedo = (s : Groups) → (redone_one (after_opening s) ≡ after_opening s)
    × ((group : ℕ) → has s.undone group ≡ true → has (after_opening s).undone group ≡ true)
