-- When a set may be undone, group by group.
use Rattle.std.specs.Prelude.{◌≡◌, ℕ, ◌<◌, true, List}
use Rattle.std.specs.List.{list_any}
use Rattle.plain_text.specs.Numbers.{has}
use Rattle.plain_edits.specs.History.{History}
use Rattle.plain_edits.specs.Edits.{is_edit_of}
use Rattle.plain_edits.specs.Undo.{undone_now}

-- the group counts from 1 and has an edit
abbrev pub HasEdit : History → ℕ → Type 0
HasEdit history group = (0 < group) × (list_any (is_edit_of group) history.revisions ≡ true)

-- where it is collected it is undone at the head
abbrev pub IsThere : History → ℕ → Type 0
IsThere history group = has history.collected group ≡ true → has (undone_now history) group ≡ true

-- where it is collected it is in the set
abbrev pub IsIn : History → List ℕ → ℕ → Type 0
IsIn history groups group = has history.collected group ≡ true → has groups group ≡ true
