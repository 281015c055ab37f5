-- From where on what a set hides is worked out.
use Rattle.std.specs.Prelude.{◌≡◌, ℕ, ◌≤◌, Bool, true, false, not, ◌⊎◌, List, Some}
use Rattle.plain_text.specs.Numbers.{has}
use Rattle.plain_edits.specs.History.{History, head, undone}
use Rattle.rev_list.specs.Under.{AgreeBy}
use Rattle.rev_list.specs.Groups.{IsFirstEdit}

-- a walk may begin at the revision: it is the floor, or what was undone there agrees with the set on all groups that have an edit by
-- then
pub record IsStart (history : History) (groups : List ℕ) (at : ℕ) : Type 0 where
  pub kept : history.floor ≤ at
  pub known : at ≤ head history
  pub agrees : (at ≤ history.floor) ⊎ AgreeBy history at groups (undone history.revisions at)

-- whether something is turned to the other way
abbrev pub turned_if : Bool → Bool → Bool
turned_if true there = not there
turned_if false there = there

-- these are the first edits of the groups in which the set differs from what was undone at the revision
abbrev pub AreOpen : History → List ℕ → ℕ → List ℕ → Type 0
AreOpen history groups at firsts =
    (group first : ℕ) → IsFirstEdit history.revisions group (Some first) →
    has firsts first ≡ turned_if (has groups group) (has (undone history.revisions at) group)

-- the later first edits are those before, with the first edits of some groups turned
abbrev pub TurnsFirst : History → List ℕ → List ℕ → List ℕ → Type 0
TurnsFirst history groups before after =
    (group first : ℕ) → IsFirstEdit history.revisions group (Some first) → has after first ≡ turned_if (has groups group) (has before first)

-- none of these is by the revision, or it is the floor
abbrev pub NoneBy : ℕ → List ℕ → ℕ → Type 0
NoneBy floor numbers at = (at ≤ floor) ⊎ ((n : ℕ) → n ≤ at → has numbers n ≡ false)
