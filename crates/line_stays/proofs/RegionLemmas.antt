-- The carets and the selected characters of regions, region by region.
use Rattle.std.proofs.Common.{◌≡◌, ℕ, ◌+◌, ◌<◌, ◌≤◌, Bool, List, [], ◌∷◌, refl, ap, ap₂, sym, subst, ◌∙◌, arith}
use Rattle.std.specs.Prelude.{◌||◌, ◌==◌, min}
use Rattle.std.proofs.lemmas.Bool.Decides.{nat_tests}
use Rattle.plain_text.specs.declared.run.Run.{Run}
use Rattle.plain_text.specs.declared.selection.Region.{Region}
use Rattle.plain_text.specs.Numbers.{has}
use Rattle.line_render.specs.Rendered.{carets_of, is_selected}
use Rattle.selection_core.specs.Selection.{AreRightOf, IsSelection, greater_end, lesser_end}
use Rattle.doc_layout.specs.Found.{RiseApart, is_found}
use Rattle.line_stays.specs.Inner.{with_run}
use Rattle.line_stays.proofs.FlagLemmas.{AreGathered, gathered-more, in_run}

-- regions rise from a gap on
abbrev pub RegionsRise : ℕ → List Region → Type 0
RegionsRise low [] = Unit {0}
RegionsRise low (region ∷ regions) = (low ≤ lesser_end region) × RegionsRise (greater_end region) regions

rise-right : (last : Region) (regions : List Region) → AreRightOf last regions → RegionsRise (greater_end last) regions
rise-right last [] are = tt
rise-right last (region ∷ regions) are = (are.0, rise-right region regions are.2)

pub regions-rise : (regions : List Region) → IsSelection regions → RegionsRise 0 regions
regions-rise [] sound = tt
regions-rise (region ∷ regions) sound = (omega arith, rise-right region regions sound)

-- a caret, as the run of its gap: one at the greatest number is in none, and no gap that is asked for is there
pub caret-run : (region : Region) (regions : List Region) (end i : ℕ) → end ≡ min (region.caret + 1) 18446744073709551615 → i < 18446744073709551615 →
    has (carets_of (region ∷ regions)) i ≡ (in_run region.caret end i || has (carets_of regions) i)
caret-run region regions end i is fits = ap (λ b. b || has (carets_of regions) i) same
  where
    same : (region.caret == i) ≡ in_run region.caret end i
    same = grind (arith, nat_tests, is, fits)

-- the selected characters of a region
pub selected-run : (region : Region) (regions : List Region) (i : ℕ) →
    is_selected (region ∷ regions) i ≡ (in_run (lesser_end region) (greater_end region) i || is_selected regions i)
selected-run region regions i = refl

-- ---- one more, among flags in the making

module _ (from n : ℕ) (all : ℕ → Bool) (low : ℕ) (flags made : List Bool) where
  pub caret-step : (end : ℕ) (region : Region) (regions : List Region) → RegionsRise low (region ∷ regions) →
      AreGathered from n all (has (carets_of (region ∷ regions))) low flags → end ≡ min (region.caret + 1) 18446744073709551615 →
      from + n < 18446744073709551616 → made ≡ with_run from n region.caret end flags →
      (more : ℕ) × RegionsRise more regions × AreGathered from n all (has (carets_of regions)) more made
  caret-step end region regions rise so end_is fits made_is = (
    greater_end region,
    rise.1,
    subst (AreGathered from n all (has (carets_of regions)) (greater_end region)) (sym made_is)
        (gathered-more from n all (has (carets_of (region ∷ regions))) (has (carets_of regions)) low region.caret end (greater_end region) flags so
        (omega (arith, rise.0)) (omega arith) (omega (arith, end_is)) (λ k less. caret-run region regions end (from + k) end_is (omega (arith, less, fits)))),
  )

  pub selected-step : (start end : ℕ) (region : Region) (regions : List Region) → RegionsRise low (region ∷ regions) →
      AreGathered from n all (is_selected (region ∷ regions)) low flags → start ≡ lesser_end region → end ≡ greater_end region →
      made ≡ with_run from n start end flags → (more : ℕ) × RegionsRise more regions × AreGathered from n all (is_selected regions) more made
  selected-step start end region regions rise so start_is end_is made_is = (
    greater_end region,
    rise.1,
    subst (AreGathered from n all (is_selected regions) (greater_end region)) (sym (made_is ∙ ap₂ (λ s e. with_run from n s e flags) start_is end_is))
        (gathered-more from n all (is_selected (region ∷ regions)) (is_selected regions) low (lesser_end region) (greater_end region) (greater_end region) flags so
        rise.0 (omega arith) (omega arith) (λ k less. selected-run region regions (from + k))),
  )

  pub found-step : (len : ℕ) (run : Run) (results : List Run) → RiseApart len low (run ∷ results) → AreGathered from n all (is_found (run ∷ results)) low flags →
      made ≡ with_run from n run.start run.end flags → (more : ℕ) × RiseApart len more results × AreGathered from n all (is_found results) more made
  found-step len run results rise so made_is = (
    run.end,
    rise.3,
    subst (AreGathered from n all (is_found results) run.end) (sym made_is)
        (gathered-more from n all (is_found (run ∷ results)) (is_found results) low run.start run.end run.end flags so rise.0 (omega (arith, rise.1)) (omega arith)
        (λ k less. refl)),
  )
