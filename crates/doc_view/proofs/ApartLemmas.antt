-- Layouts that are told apart by the length of their texts, or by a caret.
use Rattle.std.proofs.Common.{◌≡◌, ℕ, ◌-◌, ◌≤◌, Bool, true, false, List, [], ◌∷◌, Some, length, refl, ap, ap₂, sym, subst, ◌∙◌, arith}
use Rattle.std.specs.Prelude.{max, not, ◌||◌, ◌==◌, slice_get}
use Rattle.std.specs.Str.{all_scalars}
use Rattle.std.proofs.lemmas.Bool.{eq-eqb, eqb-true, or_right}
use Rattle.plain_text.specs.declared.selection.Region.{Region}
use Rattle.plain_text.specs.Numbers.{has}
use Rattle.plain_screen.specs.SameLayout.{is_same_layout}
use Rattle.plain_screen.proofs.callers.SameLemmas.{is_same_layout-Decides}
use Rattle.line_break.proofs.ForCallers.{ArePieces-wrapped}
use Rattle.line_render.specs.Rendered.{carets_of}
use Rattle.selection_core.specs.Mapped.{AreWithin}
use Rattle.selection_core.specs.Selection.{last_caret}
use Rattle.doc_layout.proofs.ForCallers.{layouts-tell}
use Rattle.doc_view.specs.Inner.{has_last_caret, is_told_apart}
use Rattle.doc_view.specs.Search.{results}
use Rattle.doc_view.specs.View.{View, layout_in, pieces_in}
use Rattle.doc_view.proofs.PointLemmas.{last_caret-is}

-- ---- the last caret of some regions is one of theirs, and stands in their text

last_caret-has : (region : Region) (regions : List Region) → has (carets_of (region ∷ regions)) (last_caret (region ∷ regions)) ≡ true
last_caret-has region [] = ap (λ b. b || false) (eq-eqb region.caret region.caret refl)
last_caret-has region (next ∷ regions) =
    or_right (region.caret == last_caret (next ∷ regions)) (has (carets_of (next ∷ regions)) (last_caret (next ∷ regions))) (last_caret-has next regions)

caret-le : (anchor caret len : ℕ) → max anchor caret ≤ len → caret ≤ len
caret-le anchor caret len le = omega (arith, le)

pub last_caret-within : (len : ℕ) (regions : List Region) → AreWithin len regions → last_caret regions ≤ len
last_caret-within len [] within = omega arith
last_caret-within len (region ∷ []) within = caret-le region.anchor region.caret len within.0
last_caret-within len (region ∷ next ∷ regions) within = last_caret-within len (next ∷ regions) within.1

shares-last : (len : ℕ) (regions others : List Region) → ((gap : ℕ) → gap ≤ len → has (carets_of regions) gap ≡ has (carets_of others) gap) →
    AreWithin len others → has_last_caret regions others ≡ true
shares-last len regions [] same within = refl
shares-last len regions (other ∷ others) same within =
    same (last_caret (other ∷ others)) (last_caret-within len (other ∷ others) within) ∙ last_caret-has other others

-- whether the last of some regions, which a body reads, has its caret among others
pub last-shared : (regions others : List Region) (region : Region) (b : Bool) → Some region ≡ slice_get others (length others - 1) →
    b ≡ has (carets_of regions) region.caret → b ≡ has_last_caret regions others
last-shared regions [] region b is here = absurd cc
last-shared regions (other ∷ others) region b is here = here ∙ ap (has (carets_of regions)) (last_caret-is (other ∷ others) region is)

-- ---- the same layout is not told apart

alike : (before after : View) → all_scalars before.text ≡ true → all_scalars after.text ≡ true → AreWithin (length before.text) before.regions →
    AreWithin (length after.text) after.regions → layout_in before ≡ layout_in after → is_told_apart before after ≡ false
alike before after characters others inside within same =
    let told = layouts-tell before.text after.text (pieces_in before) (pieces_in after) before.regions after.regions (results before.text before.query)
    (results after.text after.query) before.layers after.layers (ArePieces-wrapped before.config.width before.config.tab before.text characters)
    (ArePieces-wrapped after.config.width after.config.tab after.text others) same in
    let len = length before.text in
    ap (λ b. not b || (not (has_last_caret before.regions after.regions) || not (has_last_caret after.regions before.regions)))
    (eq-eqb len (length after.text) (ap length told.0)) ∙
    ap₂ (λ a b. not a || not b)
    (shares-last len before.regions after.regions told.2 (subst (λ t. AreWithin (length t) after.regions) (sym told.0) within))
    (shares-last len after.regions before.regions (λ gap le. sym (told.2 gap le)) inside)

pub told-apart : (before after : View) → all_scalars before.text ≡ true → all_scalars after.text ≡ true → AreWithin (length before.text) before.regions →
    AreWithin (length after.text) after.regions → is_told_apart before after ≡ true → is_same_layout (layout_in before) (layout_in after) ≡ false
told-apart before after characters others inside within apart = by (is_same_layout (layout_in before) (layout_in after)) refl
  where
    by : (b : Bool) → is_same_layout (layout_in before) (layout_in after) ≡ b → b ≡ false
    by false is = refl
    by true is =
        absurd (let both = sym apart ∙ alike before after characters others inside within ((is_same_layout-Decides (layout_in before) (layout_in after)).0 is) in cc)

-- what is not told apart has one length
pub same-length : (before after : View) → is_told_apart before after ≡ false → length before.text ≡ length after.text
same-length before after none = by (length before.text == length after.text) refl none
  where
    by : (b : Bool) → (length before.text == length after.text) ≡ b →
        (not b || (not (has_last_caret before.regions after.regions) || not (has_last_caret after.regions before.regions))) ≡ false →
        length before.text ≡ length after.text
    by true is none = eqb-true (length before.text) (length after.text) is
    by false is none = absurd cc
