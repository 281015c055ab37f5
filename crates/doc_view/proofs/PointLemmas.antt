-- The caret of the last region.
use Rattle.std.proofs.Common.{◌≡◌, ℕ, zero, suc, ◌+◌, ◌-◌, List, [], ◌∷◌, length, Some, ap, arith}
use Rattle.std.specs.Prelude.{slice_get, unwrap_or}
use Rattle.plain_text.specs.declared.selection.Region.{Region}
use Rattle.selection_core.specs.Selection.{last_caret}

last-at : (regions : List Region) (index : ℕ) (region : Region) → index + 1 ≡ length regions → Some region ≡ slice_get regions index →
    region.caret ≡ last_caret regions
last-at [] index region len is = absurd cc
last-at (first ∷ []) zero region len is = ap (λ o. (unwrap_or o region).caret) is
last-at (first ∷ []) (suc index) region len is = absurd cc
last-at (first ∷ next ∷ regions) zero region len is = absurd (omega (arith, len))
last-at (first ∷ next ∷ regions) (suc index) region len is = last-at (next ∷ regions) index region (omega (arith, len)) is

pub last_caret-is : (regions : List Region) (region : Region) → Some region ≡ slice_get regions (length regions - 1) → region.caret ≡ last_caret regions
last_caret-is [] region is = absurd cc
last_caret-is (first ∷ regions) region is = last-at (first ∷ regions) (length (first ∷ regions) - 1) region (omega arith) is
