-- Edits that were made for one text.
use Rattle.std.specs.Prelude.{◌≡◌, ◌≢◌, ℕ, ◌+◌, ◌-◌, ◌^◌, ◌≤◌, false, List, [], ◌∷◌, length, map, IsPermutation, ⊤}
use Rattle.std.specs.List.{AllByRecursion, sum_by, list_any}
use Rattle.plain_text.specs.Numbers.{has}
use Rattle.plain_edits.specs.Delta.{Fits}
use Rattle.plain_edits.specs.History.{History, head, text_at, inserted_count}
use Rattle.plain_edits.specs.Edits.{is_edit_of, merged}
use Rattle.plain_edits.specs.Delta.{inserted_len}
use Rattle.rev_engine.specs.Given.{AskedEdit, asked_rank, meant, after_all, AreTaken}
use Rattle.rev_engine.specs.Asked.{IsGiven}

-- no two of the edits have one rank
abbrev pub DifferInRank : List AskedEdit → Type 0
DifferInRank [] = ⊤
DifferInRank (asked ∷ edits) = AllByRecursion (λ other. asked_rank other ≢ asked_rank asked) edits × DifferInRank edits

-- the edit is against the head and fits its text, in a group that has no edit yet
pub record IsForHead (history : History) (asked : AskedEdit) : Type 0 where
  pub base : asked.base ≡ head history
  pub fits : Fits (text_at history (head history)) asked.delta
  pub group_counts : 1 ≤ asked.group
  pub group_fresh : list_any (is_edit_of asked.group) history.revisions ≡ false

-- the edits are all for the head, of distinct ranks, and there is room for them under the limit and among the numbers
pub record AreForHead (limit : ℕ) (history : History) (edits : List AskedEdit) : Type 0 where
  pub each : AllByRecursion (IsForHead history) edits
  pub distinct : DifferInRank edits
  pub room : inserted_count history + sum_by (λ asked. inserted_len asked.delta.els) edits ≤ limit
  pub numbers : head history + length edits ≤ 2 ^ 63 - 1

-- the history shows what the edits come to when they are merged
abbrev pub ShowsMerged : History → List AskedEdit → History → Type 0
ShowsMerged history edits last = text_at last (head last) ≡ merged (text_at history (head history)) (map (meant history) edits)

-- none of their groups is collected
abbrev pub AreOpen : History → List AskedEdit → Type 0
AreOpen history edits = AllByRecursion (λ asked. has history.collected asked.group ≡ false) edits

-- EDITS OF ONE BASE COMMUTE: in whatever order they come, all are taken where none of their groups is collected, and the text is the
-- merged one
abbrev pub EditsCommute : Type 0
EditsCommute = (limit : ℕ) (history : History) (edits order : List AskedEdit) → IsGiven limit history → AreForHead limit history edits →
    IsPermutation edits order → (AreOpen history edits → AreTaken limit history order) × ShowsMerged history edits (after_all history order)
