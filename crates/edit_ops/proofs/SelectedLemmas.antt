-- Regions that a command selects lie in the text.
use Rattle.std.proofs.Common.{◌≡◌, ⊎_elim, ℕ, zero, suc, ◌-◌, ◌≤◌, true, false, List, [], ◌∷◌, ◌++◌, length, map, drop, Result, Ok, Err, sym, ap, subst, ◌∙◌, arith}
use Rattle.std.specs.Prelude.{not, IfOk}
use Rattle.std.specs.List.{filter, list_any}
use Rattle.std.proofs.lemmas.Bool.{cases_Bool}
use Rattle.plain_text.specs.declared.selection.Region.{Region}
use Rattle.plain_text.specs.declared.selection.Sel.{Sel}
use Rattle.plain_text.proofs.callers.ListLemmas.{AllByRecursion-append, AllByRecursion-take}
use Rattle.plain_edits.proofs.callers.RunLemmas.{AllByRecursion-filter}
use Rattle.selection_core.specs.Mapped.{AreWithin}
use Rattle.selection_core.specs.Selection.{IsSelection, caret_of, greater_end, last_caret, with_in_order}
use Rattle.edit_ops.specs.Inner.{AreSelected}
use Rattle.edit_ops.specs.Regions.{all_but_last, dragged, has_gap, last_region, or_last, ranged, toggled, with_caret, without_goal}
use Rattle.edit_ops.proofs.SelectionLemmas.{AreWithin-selection_of, within-in_order, within-merged}

within-drop : (len n : ℕ) (regions : List Region) → AreWithin len regions → AreWithin len (drop n regions)
within-drop len zero regions all = all
within-drop len (suc n) [] all = tt
within-drop len (suc n) (region ∷ regions) all = within-drop len n regions all.1

pub AreWithin-without_goal : (len : ℕ) (regions : List Region) → AreWithin len regions → AreWithin len (map without_goal regions)
AreWithin-without_goal len [] all = tt
AreWithin-without_goal len (region ∷ regions) all = (all.0, AreWithin-without_goal len regions all.1)

within-with_caret : (len gap : ℕ) (regions : List Region) → gap ≤ len → AreWithin len regions → AreWithin len (map (with_caret gap) regions)
within-with_caret len gap [] low all = tt
within-with_caret len gap (region ∷ regions) low all = let high = all.0 in (omega arith, within-with_caret len gap regions low all.1)

pub AreWithin-dragged : (len gap : ℕ) (regions : List Region) → gap ≤ len → AreWithin len regions → AreWithin len (dragged gap regions)
AreWithin-dragged len gap regions low all = within-with_caret len gap (last_region regions) low (within-drop len (length regions - 1) regions all)

pub AreWithin-ranged : (len gap : ℕ) (regions : List Region) → gap ≤ len → AreWithin len regions → AreWithin len (ranged gap regions)
AreWithin-ranged len gap regions low all =
    AreWithin-selection_of len (all_but_last regions ++ dragged gap regions)
    (AllByRecursion-append (λ region. greater_end region ≤ len) (all_but_last regions) (dragged gap regions)
    (AllByRecursion-take (λ region. greater_end region ≤ len) (length regions - 1) regions all)
    (AreWithin-dragged len gap regions low all))

within-or_last : (len : ℕ) (regions left : List Region) → AreWithin len regions → AreWithin len left → AreWithin len (or_last regions left)
within-or_last len regions [] all some = within-drop len (length regions - 1) regions all
within-or_last len regions (region ∷ left) all some = some

pub AreWithin-toggled : (len gap : ℕ) (regions : List Region) → gap ≤ len → AreWithin len regions → AreWithin len (toggled gap regions)
AreWithin-toggled len gap regions low all =
    ⊎_elim
    (λ (there : list_any (has_gap gap) regions ≡ true).
    rw there
    (within-or_last len regions (filter (λ region. not (has_gap gap region)) regions) all
    (AllByRecursion-filter (λ region. greater_end region ≤ len) (λ region. not (has_gap gap region)) regions all)))
    (λ (none : list_any (has_gap gap) regions ≡ false).
    rw none (within-merged len (with_in_order (caret_of gap) regions) (within-in_order len (caret_of gap) regions (omega arith) all)))
    (cases_Bool (list_any (has_gap gap) regions))

pub last_caret-inside : (len : ℕ) (regions : List Region) → AreWithin len regions → greater_end (caret_of (last_caret regions)) ≤ len
last_caret-inside len [] all = omega arith
last_caret-inside len (region ∷ []) all = let high = all.0 in omega arith
last_caret-inside len (region ∷ (next ∷ regions)) all = last_caret-inside len (next ∷ regions) all.1

-- ---- of an answer

pub AreSelected-told : {E : Type 0} (text : List ℕ) (wanted : List Region) (result : Result Sel E) → AreWithin (length text) wanted →
    IfOk result (λ sel. sel.regions ≡ wanted) → IfOk result (λ sel. IsSelection sel.regions) → IfOk result (λ sel. AreSelected text wanted sel.regions)
AreSelected-told text wanted (Ok sel) within is sound = record { is = is; sound = sound; inside = subst (AreWithin (length text)) (sym is) within }
AreSelected-told text wanted (Err e) within is sound = tt

pub AreSelected-one : {E : Type 0} (text : List ℕ) (wanted region : Region) (result : Result Sel E) → region ≡ wanted → greater_end wanted ≤ length text →
    IfOk result (λ sel. sel.regions ≡ region ∷ []) → IfOk result (λ sel. AreSelected text (wanted ∷ []) sel.regions)
AreSelected-one text wanted region (Ok sel) same within is =
    let all : sel.regions ≡ wanted ∷ [] = is ∙ ap (λ r. r ∷ []) same in
    record { is = all; sound = subst IsSelection (sym all) tt; inside = subst (AreWithin (length text)) (sym all) (within, tt) }
AreSelected-one text wanted region (Err e) same within is = tt

pub AreSelected-all : {E : Type 0} (text : List ℕ) (wanted : List Region) (result : Result Sel E) → IfOk result (λ sel. sel.regions ≡ wanted) →
    IfOk result (λ sel. IsSelection sel.regions) → IfOk result (λ sel. AreWithin (length text) sel.regions) → IfOk result (λ sel. AreSelected text wanted sel.regions)
AreSelected-all text wanted (Ok sel) is sound inside = record { is = is; sound = sound; inside = inside }
AreSelected-all text wanted (Err e) is sound inside = tt
