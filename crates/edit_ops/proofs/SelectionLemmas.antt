-- A selection of regions that lie in a text lies in it.
use Rattle.std.proofs.Common.{◌≡◌, ⊎_elim, ℕ, ◌+◌, ◌≤◌, Bool, true, false, List, [], ◌∷◌, map, arith}
use Rattle.std.specs.Prelude.{min, max, ◌||◌}
use Rattle.std.proofs.lemmas.Bool.{cases_Bool}
use Rattle.plain_text.specs.declared.selection.Region.{Region}
use Rattle.selection_core.specs.Mapped.{AreWithin}
use Rattle.selection_core.specs.Selection.{caret_of, comes_before, greater_end, is_forward, joined, lesser_end, meets, merged_from, merged_regions, selection_of, sorted_regions, spanning, with_in_order}
use Rattle.edit_ops.specs.declared.replacement.Replacement.{Replacement}
use Rattle.edit_ops.specs.Replacements.{AreInOrder, carets_with, gap_with}
use Rattle.edit_ops.proofs.OrderLemmas.{gap_with-rises}

pub within-in_order : (len : ℕ) (region : Region) (regions : List Region) → greater_end region ≤ len → AreWithin len regions → AreWithin len (with_in_order region regions)
within-in_order len region [] fits all = (fits, tt)
within-in_order len region (first ∷ regions) fits all =
    ⊎_elim
    (λ (before : comes_before first region ≡ true). rw before (all.0, within-in_order len region regions fits all.1))
    (λ (after : comes_before first region ≡ false). rw after (fits, all))
    (cases_Bool (comes_before first region))

within-sorted : (len : ℕ) (regions : List Region) → AreWithin len regions → AreWithin len (sorted_regions regions)
within-sorted len [] all = tt
within-sorted len (region ∷ regions) all = within-in_order len region (sorted_regions regions) all.0 (within-sorted len regions all.1)

greater_end-spanning : (b : Bool) (from to len : ℕ) → from ≤ len → to ≤ len → greater_end (spanning b from to) ≤ len
greater_end-spanning true from to len low high = omega arith
greater_end-spanning false from to len low high = omega arith

within-merged_from : (len : ℕ) (last : Region) (regions : List Region) → greater_end last ≤ len → AreWithin len regions → AreWithin len (merged_from last regions)
within-merged_from len last [] fits all = (fits, tt)
within-merged_from len last (region ∷ regions) fits all =
    let next = all.0 in
    ⊎_elim
    (λ (meet : meets last region ≡ true).
    rw meet (within-merged_from len (joined last region) regions
    (greater_end-spanning (is_forward last || is_forward region) (min (lesser_end last) (lesser_end region)) (max (greater_end last) (greater_end region)) len
    (omega arith) (omega arith))
    all.1))
    (λ (apart : meets last region ≡ false). rw apart (fits, within-merged_from len region regions next all.1))
    (cases_Bool (meets last region))

pub within-merged : (len : ℕ) (regions : List Region) → AreWithin len regions → AreWithin len (merged_regions regions)
within-merged len [] all = tt
within-merged len (region ∷ regions) all = within-merged_from len region regions all.0 all.1

pub AreWithin-selection_of : (len : ℕ) (regions : List Region) → AreWithin len regions → AreWithin len (selection_of regions)
AreWithin-selection_of len regions all = within-merged len (sorted_regions regions) (within-sorted len regions all)

carets-within : (base low : ℕ) (all rs : List Replacement) → AreInOrder base low rs →
    AreWithin (gap_with all base) (map (λ r. caret_of (gap_with all r.range.start)) rs)
carets-within base low all [] order = tt
carets-within base low all (r ∷ rs) order =
    let inside = order.1 in
    let bound = order.2 in
    let rises = gap_with-rises all r.range.start base (omega (arith, inside, bound)) in
    (omega (arith, rises), carets-within base (r.range.start + 1) all rs order.4)

pub AreWithin-carets_with : (base : ℕ) (all : List Replacement) (regions : List Region) → AreInOrder base 0 all → regions ≡ carets_with all →
    AreWithin (gap_with all base) regions
AreWithin-carets_with base all regions order is =
    rw is (AreWithin-selection_of (gap_with all base) (map (λ r. caret_of (gap_with all r.range.start)) all) (carets-within base 0 all all order))
