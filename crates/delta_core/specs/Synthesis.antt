-- The unit delta between two visible lists of one union.
use Rattle.std.specs.Prelude.{◌≡◌, ℕ, ◌+◌, Bool, true, false, if◌then◌else◌, ◌==◌, List, [], ◌∷◌, ◌++◌, length}
use Rattle.plain_edits.specs.declared.delta.UnitDelta.{UnitDelta}
use Rattle.plain_edits.specs.UnitDelta.{IsCanonical, unit_keeps, unit_adds}
use Rattle.subset_runs.specs.Subset.{contains, complement, items_outside, minus, shrink}
use Rattle.delta_core.specs.Units.{text_after}

-- the characters that are dead before and alive after, at the gap that counts the characters alive before left of them; left of the
-- union given, `alive` are
abbrev pub appearing : ℕ → List ℕ → List Bool → List Bool → ℕ → List ℕ
appearing alive [] before after gap = []
appearing alive (c ∷ union) [] after gap = []
appearing alive (c ∷ union) (dead ∷ before) [] gap = []
appearing alive (c ∷ union) (true ∷ before) (true ∷ after) gap = appearing alive union before after gap
appearing alive (c ∷ union) (true ∷ before) (false ∷ after) gap = (if alive == gap then c ∷ [] else []) ++ appearing alive union before after gap
appearing alive (c ∷ union) (false ∷ before) (dead ∷ after) gap = appearing (alive + 1) union before after gap

-- the same in one list, as they stand in the union
abbrev pub all_appearing : List ℕ → List Bool → List Bool → List ℕ
all_appearing union before after = items_outside (complement (minus before after)) union

-- the delta drops those that die, keeps the others that live, and adds those that appear; so it leads from the one list to the other
pub record IsBetween (union : List ℕ) (before after : List Bool) (units : UnitDelta) : Type 0 where
  pub canonical : IsCanonical units
  pub base : units.base ≡ length (items_outside before union)
  pub kept : (index : ℕ) → unit_keeps units index ≡ contains (shrink (complement after) before) index
  pub added : (gap : ℕ) → unit_adds units gap ≡ appearing 0 union before after gap
  pub leads : text_after units (items_outside before union) ≡ items_outside after union

-- the delta is that of each union in which these characters appear
pub record IsBetweenWith (appear : List ℕ) (before after : List Bool) (units : UnitDelta) : Type 0 where
  pub canonical : IsCanonical units
  pub each : (union : List ℕ) → length union ≡ length before → all_appearing union before after ≡ appear → IsBetween union before after units
