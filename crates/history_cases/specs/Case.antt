-- What the lines of a case say of a history, and what each of them leaves.
use Rattle.std.specs.Prelude.{◌≡◌, ℕ, ◌≤◌, true, false, List, [], map, Option, Some, None}
use Rattle.std.specs.List.{filter, AllByRecursion}
use Rattle.plain_text.specs.Numbers.{has}
use Rattle.plain_edits.specs.History.{History, head, loaded, text_at, is_visible_under}
use Rattle.plain_edits.specs.Edits.{MayUndo, edit_refusal, edited, undid, plain_edit}
use Rattle.plain_edits.specs.Collection.{MayCollect, collected_at}
use Rattle.plain_edits.specs.EditFault.{refusal_of}
use Rattle.rev_undo.specs.Allowed.{HasEdit}
use Rattle.rev_engine.specs.declared.edit.Edit.{Edit as AnyEdit}
use Rattle.rev_engine.specs.Asked.{IsFrozenAt}
use Rattle.history_cases.specs.declared.refusal.Refusal.{Refusal}
use Rattle.history_cases.specs.declared.refusal.Refusal.TheVariants.{Edit, Closed, NoEdit, Frozen, Uncollectable}

-- a case as far as it has come: its history, and how many characters may be inserted in all
pub record Case : Type 0 where
  pub history : History
  pub limit : ℕ

-- the case that begins with the empty text
abbrev pub new_case : Case
new_case = record { history = loaded []; limit = 1000 }

-- why an edit is refused: its group is collected, or else by the edit refusal
abbrev pub IsEditRefused : Case → AnyEdit → Refusal → Type 0
IsEditRefused before e (Edit fault) =
    (has before.history.collected e.group ≡ false) × (edit_refusal before.history before.limit e.rev e.delta ≡ refusal_of fault)
IsEditRefused before e Closed = has before.history.collected e.group ≡ true
IsEditRefused before e NoEdit = ⊥
IsEditRefused before e (Frozen group) = ⊥
IsEditRefused before e Uncollectable = ⊥

-- AN EDIT, which nothing refuses or which changes nothing
abbrev pub Edits : Case → AnyEdit → Case → Option Refusal → Type 0
Edits before e after None =
    (has before.history.collected e.group ≡ false) ×
    (edit_refusal before.history before.limit e.rev e.delta ≡ None) ×
    (after ≡ record before { history = edited before.history (plain_edit before.history e.rev e.delta e.group e.priority e.author) })
Edits before e after (Some refusal) = IsEditRefused before e refusal × (after ≡ before)

-- why an undo is refused: not all of its groups have an edit, or they all do and this is the least frozen group
abbrev pub IsUndoRefused : History → List ℕ → Refusal → Type 0
IsUndoRefused history groups (Edit fault) = ⊥
IsUndoRefused history groups Closed = ⊥
IsUndoRefused history groups NoEdit = AllByRecursion (HasEdit history) groups → ⊥
IsUndoRefused history groups (Frozen group) = AllByRecursion (HasEdit history) groups × IsFrozenAt history groups group
IsUndoRefused history groups Uncollectable = ⊥

-- AN UNDO, which is refused exactly where it may not come
abbrev pub Undoes : Case → List ℕ → Case → Option Refusal → Type 0
Undoes before groups after None = MayUndo before.history groups × (after ≡ record before { history = undid before.history groups })
Undoes before groups after (Some refusal) =
    (MayUndo before.history groups → ⊥) × IsUndoRefused before.history groups refusal × (after ≡ before)

-- A COLLECTION, which is refused exactly where it may not come
abbrev pub Collects : Case → ℕ → List ℕ → Case → Option Refusal → Type 0
Collects before floor groups after None =
    MayCollect before.history floor groups × (after ≡ record before { history = collected_at before.history floor groups })
Collects before floor groups after (Some refusal) =
    (MayCollect before.history floor groups → ⊥) × (refusal ≡ Uncollectable) × (after ≡ before)

-- the revision is there and shows the text
abbrev pub ShowsText : History → ℕ → List ℕ → Type 0
ShowsText history rev text = (rev ≤ head history) × (text_at history rev ≡ text)

-- the head would show the text if exactly these groups were undone there
abbrev pub ShowsUnder : History → List ℕ → List ℕ → Type 0
ShowsUnder history groups text =
    map (λ tagged. tagged.character) (filter (is_visible_under history.revisions groups (head history)) history.characters) ≡ text
