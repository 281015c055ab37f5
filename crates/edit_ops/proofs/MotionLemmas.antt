-- What is deleted up to where a motion goes lies in the text.
use Rattle.std.proofs.Common.{◌≡◌, ⊎_elim, ℕ, ◌≤◌, true, false, List, [], ◌∷◌, map, arith}
use Rattle.std.specs.List.{AllByRecursion}
use Rattle.std.proofs.lemmas.Bool.{cases_Bool}
use Rattle.plain_text.specs.declared.selection.Region.{Region}
use Rattle.selection_core.specs.Mapped.{AreWithin}
use Rattle.selection_core.specs.Selection.{greater_end, is_caret}
use Rattle.edit_ops.specs.Replacements.{deleted_range}

deleted_range-inside : (base gap : ℕ) (region : Region) → greater_end region ≤ base → gap ≤ base →
    ((deleted_range gap region).start ≤ (deleted_range gap region).end) × ((deleted_range gap region).end ≤ base)
deleted_range-inside base gap region inside low =
    ⊎_elim
    (λ (one : is_caret region ≡ true). rw one (omega arith, omega arith))
    (λ (more : is_caret region ≡ false). rw more (omega arith, inside))
    (cases_Bool (is_caret region))

pub deleted_ranges-inside : (base : ℕ) (gap_of : Region → ℕ) (regions : List Region) →
    ((region : Region) → greater_end region ≤ base → gap_of region ≤ base) → AreWithin base regions →
    AllByRecursion (λ range. (range.start ≤ range.end) × (range.end ≤ base)) (map (λ region. deleted_range (gap_of region) region) regions)
deleted_ranges-inside base gap_of [] each all = tt
deleted_ranges-inside base gap_of (region ∷ regions) each all =
    (deleted_range-inside base (gap_of region) region all.0 (each region all.0), deleted_ranges-inside base gap_of regions each all.1)
