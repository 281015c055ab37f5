-- The regions of a selection, each replaced by a text, are replacements in order.
use Rattle.std.proofs.Common.{◌≡◌, inr, ⊎_elim, ℕ, ◌+◌, ◌<◌, ◌≤◌, true, false, List, [], ◌∷◌, map, refl, arith}
use Rattle.std.specs.Prelude.{◌&&◌, ◌||◌}
use Rattle.std.proofs.lemmas.Bool.{both_ways, cases_lt, eq-eqb, le-leb, or_right}
use Rattle.plain_text.specs.declared.selection.Region.{Region}
use Rattle.selection_core.specs.Mapped.{AreWithin}
use Rattle.selection_core.specs.Selection.{AreRightOf, IsSelection, greater_end, is_caret, lesser_end, meets, overlaps, touches}
use Rattle.edit_ops.specs.Replacements.{AreInOrder, replaced_by}

-- two regions that do not meet start apart
starts_rise : (last region : Region) → greater_end last ≤ lesser_end region → meets last region ≡ false → lesser_end last < lesser_end region
starts_rise last region order apart =
    ⊎_elim
    (λ (less : lesser_end last < lesser_end region). less)
    (λ (back : lesser_end region ≤ lesser_end last).
    let caret : is_caret last ≡ true = eq-eqb last.anchor last.caret (omega (arith, order)) in
    let low = le-leb (lesser_end last) (greater_end region) (omega (arith, order)) in
    let high = le-leb (lesser_end region) (greater_end last) (omega (arith, order)) in
    let met : (touches last region && (is_caret last || is_caret region)) ≡ true = rw (low, high, caret) refl in
    absurd (both_ways (meets last region) apart (or_right (overlaps last region) (touches last region && (is_caret last || is_caret region)) met)))
    (cases_lt (lesser_end last) (lesser_end region))

in_order_from : (base : ℕ) (text_of : Region → List ℕ) (last : Region) (regions : List Region) → AreRightOf last regions → AreWithin base regions →
    AreInOrder base (lesser_end last + 1) (map (λ region. replaced_by (text_of region) region) regions)
in_order_from base text_of last [] right all = tt
in_order_from base text_of last (region ∷ regions) right all =
    let rises = starts_rise last region right.0 right.1 in
    (omega (arith, rises), omega arith, all.0, inr (omega (arith, rises)), in_order_from base text_of region regions right.2 all.1)

pub AreInOrder-regions : (base : ℕ) (text_of : Region → List ℕ) (regions : List Region) → IsSelection regions → AreWithin base regions →
    AreInOrder base 0 (map (λ region. replaced_by (text_of region) region) regions)
AreInOrder-regions base text_of [] sound all = tt
AreInOrder-regions base text_of (region ∷ regions) sound all =
    (omega arith, omega arith, all.0, inr (omega arith), in_order_from base text_of region regions sound all.1)
