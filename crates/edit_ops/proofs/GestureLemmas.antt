-- Selections of which some regions are taken away, or goals.
use Rattle.std.proofs.Common.{◌≡◌, ⊎_elim, ◌-◌, ◌<◌, ◌≤◌, Bool, true, false, List, [], ◌∷◌, map, length, drop, refl, sym, subst, arith}
use Rattle.std.specs.Prelude.{◌&&◌, ◌||◌, nat_lt, nat_le}
use Rattle.std.specs.List.{filter}
use Rattle.std.proofs.lemmas.Bool.{both_ways, cases_Bool, cases_lt, eq-eqb, le-leb, le-ltb, lt-leb, or_from, or_right}
use Rattle.plain_text.specs.declared.selection.Region.{Region}
use Rattle.selection_core.specs.Selection.{AreRightOf, IsSelection, greater_end, is_caret, lesser_end, meets, overlaps, touches}
use Rattle.edit_ops.specs.Regions.{last_region, or_last, without_goal}

-- ---- a part of a selection

and_false : (b : Bool) → (b && false) ≡ false
and_false true = refl
and_false false = refl

apart_further : (last region next : Region) → greater_end last ≤ lesser_end region → meets last region ≡ false → greater_end region ≤ lesser_end next →
    meets last next ≡ false
apart_further last region next order apart next_order =
    or_from (overlaps last next) (touches last next && (is_caret last || is_caret next))
    (rw (le-ltb (lesser_end next) (greater_end last) (omega (arith, order, next_order))) (and_false (nat_lt (lesser_end last) (greater_end next))))
    (⊎_elim
    (λ (left : greater_end last < lesser_end next).
    rw (lt-leb (lesser_end next) (greater_end last) left, and_false (nat_le (lesser_end last) (greater_end next))) refl)
    (λ (back : lesser_end next ≤ greater_end last).
    let caret : is_caret region ≡ true = eq-eqb region.anchor region.caret (omega (arith, order, next_order)) in
    let low = le-leb (lesser_end last) (greater_end region) (omega (arith, order, next_order)) in
    let high = le-leb (lesser_end region) (greater_end last) (omega (arith, order, next_order)) in
    let met : (touches last region && (is_caret last || is_caret region)) ≡ true = rw (low, high) (or_right (is_caret last) (is_caret region) caret) in
    absurd (both_ways (meets last region) apart (or_right (overlaps last region) (touches last region && (is_caret last || is_caret region)) met)))
    (cases_lt (greater_end last) (lesser_end next)))

right_past : (last region : Region) (regions : List Region) → AreRightOf last (region ∷ regions) → AreRightOf last regions
right_past last region [] right = tt
right_past last region (next ∷ regions) right =
    let order = right.0 in
    let next_order = right.2.0 in
    (omega (arith, order, next_order), apart_further last region next order right.1 next_order, right.2.2)

right-filter : (p : Region → Bool) (last : Region) (regions : List Region) → AreRightOf last regions → AreRightOf last (filter p regions)
right-filter p last [] right = tt
right-filter p last (region ∷ regions) right =
    ⊎_elim
    (λ (stays : p region ≡ true). rw stays (right.0, right.1, right-filter p region regions right.2))
    (λ (goes : p region ≡ false). rw goes (right-filter p last regions (right_past last region regions right)))
    (cases_Bool (p region))

from_right : (last : Region) (regions : List Region) → AreRightOf last regions → IsSelection regions
from_right last [] right = tt
from_right last (region ∷ regions) right = right.2

pub IsSelection-filter : (p : Region → Bool) (regions : List Region) → IsSelection regions → IsSelection (filter p regions)
IsSelection-filter p [] sound = tt
IsSelection-filter p (region ∷ regions) sound =
    ⊎_elim
    (λ (stays : p region ≡ true). rw stays (right-filter p region regions sound))
    (λ (goes : p region ≡ false). rw goes (IsSelection-filter p regions (from_right region regions sound)))
    (cases_Bool (p region))

right-without_goal : (last : Region) (regions : List Region) → AreRightOf last regions → AreRightOf (without_goal last) (map without_goal regions)
right-without_goal last [] right = tt
right-without_goal last (region ∷ regions) right = (right.0, right.1, right-without_goal region regions right.2)

pub IsSelection-without_goal : (regions : List Region) → IsSelection regions → IsSelection (map without_goal regions)
IsSelection-without_goal [] sound = tt
IsSelection-without_goal (region ∷ regions) sound = right-without_goal region regions sound

-- the last region alone is a selection
last-selection : (region : Region) (regions : List Region) → IsSelection (drop (length regions) (region ∷ regions))
last-selection region [] = tt
last-selection region (next ∷ regions) = last-selection next regions

IsSelection-last : (regions : List Region) → IsSelection (last_region regions)
IsSelection-last [] = tt
IsSelection-last (region ∷ regions) =
    let count : length (region ∷ regions) - 1 ≡ length regions = omega arith in rw count (last-selection region regions)

pub IsSelection-or_last : (regions left : List Region) → IsSelection left → IsSelection (or_last regions left)
IsSelection-or_last regions [] sound = IsSelection-last regions
IsSelection-or_last regions (region ∷ left) sound = sound

-- what is left of a selection without its goals, or its last region, is a selection
pub IsSelection-left : (p : Region → Bool) (regions all left result : List Region) → all ≡ map without_goal regions → left ≡ filter p all →
    result ≡ or_last all left → IsSelection regions → IsSelection result
IsSelection-left p regions all left result all_is left_is is sound =
    rw is
    (IsSelection-or_last all left
    (rw left_is (IsSelection-filter p all (subst IsSelection (sym all_is) (IsSelection-without_goal regions sound)))))
