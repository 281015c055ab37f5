-- The edits that are asked of an engine, and when they are taken.
use Rattle.std.specs.Prelude.{◌≡◌, ℕ, ◌-◌, ◌^◌, ◌<◌, ◌≤◌, false, List, [], ◌∷◌, None, ⊤}
use Rattle.std.specs.List.{fold}
use Rattle.plain_edits.specs.declared.delta.Delta.{Delta}
use Rattle.plain_edits.specs.declared.rank.Rank.{Rank}
use Rattle.plain_text.specs.Numbers.{has}
use Rattle.plain_edits.specs.History.{History, head}
use Rattle.plain_edits.specs.Edits.{PlainEdit, edited, plain_edit, edit_refusal}

-- an edit as it is asked for: a delta against the text of a revision
pub record AskedEdit : Type 0 where
  pub base : ℕ
  pub delta : Delta
  pub group : ℕ
  pub priority : ℕ
  pub author : ℕ

-- the rank of what it inserts
abbrev pub asked_rank : AskedEdit → Rank
asked_rank asked = record { priority = asked.priority; author = asked.author }

-- what it means in a history
abbrev pub meant : History → AskedEdit → PlainEdit
meant history asked = plain_edit history asked.base asked.delta asked.group asked.priority asked.author

-- the history after it, and after many, one after the other
abbrev pub after : History → AskedEdit → History
after history asked = edited history (meant history asked)

abbrev pub after_all : History → List AskedEdit → History
after_all history edits = fold after history edits

-- the edit may be asked for: its group counts from 1 and is not collected, and the next revision has a number
pub record MayAsk (history : History) (group : ℕ) : Type 0 where
  pub group_counts : 1 ≤ group
  pub group_kept : has history.collected group ≡ false
  pub has_number : head history < 2 ^ 63 - 1

-- the edit is taken
pub record IsTaken (limit : ℕ) (history : History) (asked : AskedEdit) : Type 0 where
  pub may : MayAsk history asked.group
  pub accepted : edit_refusal history limit asked.base asked.delta ≡ None

-- each edit is taken in its turn
abbrev pub AreTaken : ℕ → History → List AskedEdit → Type 0
AreTaken limit history [] = ⊤
AreTaken limit history (asked ∷ edits) = IsTaken limit history asked × AreTaken limit (after history asked) edits
