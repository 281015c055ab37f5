-- What private functions say: revisions one by one, the least base of some, and the groups that are not at rest.
use Rattle.std.specs.Prelude.{◌≡◌, ℕ, Bool, true, not, ◌||◌, nat_le, ◌==◌, min, List}
use Rattle.plain_text.specs.Numbers.{has, IsRising}
use Rattle.plain_edits.specs.History.{History}
use Rattle.plain_edits.specs.Collection.{is_at_rest}
use Rattle.rev_list.specs.declared.step.RevStep.{RevStep}
use Rattle.rev_list.specs.declared.step.RevStep.TheVariants.{Edit, Undo}

-- whether a revision is no edit against a base below the floor
abbrev pub is_step_from : ℕ → RevStep → Bool
is_step_from floor (Edit e) = nat_le floor e.base
is_step_from floor (Undo groups) = true

-- the least of this and the base of the revision, where it is an edit
abbrev pub least_base : ℕ → RevStep → ℕ
least_base least (Edit e) = min least e.base
least_base least (Undo groups) = least

-- whether a revision is an edit of the group, or an undo that turns it
abbrev pub moves : ℕ → RevStep → Bool
moves group (Edit e) = e.group == group
moves group (Undo groups) = has groups group

-- the groups of an undo rise
abbrev pub HasRisingGroups : RevStep → Type 0
HasRisingGroups (Edit e) = Unit {0}
HasRisingGroups (Undo groups) = IsRising groups

-- with the groups that one more revision moves
pub record IsMoved (revision : RevStep) (before after : List ℕ) : Type 0 where
  pub each : (group : ℕ) → has after group ≡ (has before group || moves group revision)
  pub rising : HasRisingGroups revision

-- these are the groups that are not at rest at the floor
abbrev pub AreMoving : History → ℕ → List ℕ → Type 0
AreMoving history floor moving = (group : ℕ) → is_at_rest history floor group ≡ not (has moving group)
