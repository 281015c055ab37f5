-- A unit delta as two sets: what is dropped of the base, and what is inserted in the base with the insertions, its union.
use Rattle.std.specs.Prelude.{◌≡◌, ℕ, Bool, true, false, not, List, [], ◌∷◌, length, map, replicate}
use Rattle.std.specs.List.{range_with_len}
use Rattle.plain_edits.specs.declared.delta.UnitDelta.{UnitDelta}
use Rattle.plain_text.specs.Woven.{woven}
use Rattle.plain_edits.specs.UnitDelta.{unit_keeps, unit_adds}
use Rattle.subset_runs.specs.Subset.{items_outside, expand}
use Rattle.delta_core.specs.Units.{text_after}

-- for each character of the base whether it is dropped
abbrev pub dropped_flags : UnitDelta → List Bool
dropped_flags units = map (λ index. not (unit_keeps units index)) (range_with_len 0 units.base)

-- for each character of the union whether it is inserted
abbrev pub inserted_flags : UnitDelta → List Bool
inserted_flags units = woven (λ gap. replicate (length (unit_adds units gap)) true) (λ index _. false ∷ []) 0 (range_with_len 0 units.base)

-- the text with the insertions, and with what is dropped
abbrev pub union_text : UnitDelta → List ℕ → List ℕ
union_text units text = woven (unit_adds units) (λ index c. c ∷ []) 0 text

-- the two sets: outside the second the union is the text, and outside the first it is the text after
pub record IsFactored (units : UnitDelta) (dropped inserted : List Bool) : Type 0 where
  pub dropped_is : dropped ≡ dropped_flags units
  pub inserted_is : inserted ≡ inserted_flags units
  pub before : (text : List ℕ) → length text ≡ units.base → items_outside inserted (union_text units text) ≡ text
  pub after : (text : List ℕ) → length text ≡ units.base →
      items_outside (expand dropped inserted) (union_text units text) ≡ text_after units text
