-- Deletions: in what order they come does not matter, and in the order of their starts they are replacements in order.
use Rattle.std.proofs.Common.{◌≡◌, inl, ℕ, suc, ◌+◌, ◌<◌, ◌≤◌, false, List, [], ◌∷◌, map, length, get_or, refl, sym, ap, ap₂, subst, ◌∙◌, arith}
use Rattle.std.proofs.Math.Path.{fun_ext}
use Rattle.std.specs.Prelude.{not, nat_lt, nat_le, ◌&&◌}
use Rattle.std.specs.List.{AllByRecursion}
use Rattle.std.specs.List.Sorted.{IsNonDecreasingBy, IsPermutation}
use Rattle.std.proofs.lemmas.List.Elements.{All-from_recursion, recursion_from_All}
use Rattle.std.proofs.lemmas.List.Sorted.{All-permutation, IsPermutation-map, list_any-IsPermutation}
use Rattle.plain_text.specs.declared.run.Run.{Run}
use Rattle.plain_text.specs.declared.selection.Region.{Region}
use Rattle.plain_edits.specs.Caret.{mapped_gap}
use Rattle.plain_edits.specs.Delta.{is_in_runs}
use Rattle.plain_edits.specs.declared.delta.UnitDelta.{UnitDelta}
use Rattle.selection_core.specs.Laws.{OrderDoesNotMatter}
use Rattle.selection_core.specs.Mapped.{AreWithin}
use Rattle.selection_core.specs.Selection.{caret_of, selection_of}
use Rattle.edit_ops.specs.declared.replacement.Replacement.{Replacement}
use Rattle.edit_ops.specs.Replacements.{AreInOrder, IsEditOf, added_by, carets_with, deletion_of, gap_with, kept_by}
use Rattle.edit_ops.proofs.LawLemmas.{added_by-none}

-- the range lies in a base of this length
abbrev IsRangeOf : ℕ → Run → Type 0
IsRangeOf base range = (range.start ≤ range.end) × (range.end ≤ base)

-- in the order of their starts
AreInOrder-rising : (base low : ℕ) (ranges : List Run) → IsNonDecreasingBy (λ range. range.start) ranges →
    ((d : Run) → 0 < length ranges → low ≤ (get_or ranges 0 d).start + 1) → AllByRecursion (λ range. (range.start ≤ range.end) × (range.end ≤ base)) ranges →
    AreInOrder base low (map deletion_of ranges)
AreInOrder-rising base low [] rises first all = tt
AreInOrder-rising base low (range ∷ ranges) rises first all = (
  first range (omega arith),
  all.0.0,
  all.0.1,
  inl refl,
  AreInOrder-rising base (range.start + 1) ranges (λ i j d le below. rises (suc i) (suc j) d (omega arith) (omega arith))
      (λ d some. let up = rises 0 (suc 0) d (omega arith) (omega arith) in omega (arith, up)) all.1,
)

texts-none : (ranges : List Run) → AllByRecursion (λ r. r.text ≡ []) (map deletion_of ranges)
texts-none [] = tt
texts-none (range ∷ ranges) = (refl, texts-none ranges)

-- ---- in another order

runs-deletions : (ranges : List Run) → map (λ r. r.range) (map deletion_of ranges) ≡ ranges
runs-deletions [] = refl
runs-deletions (range ∷ ranges) = ap (λ rs. range ∷ rs) (runs-deletions ranges)

kept_by-deletions : (ranges : List Run) (index : ℕ) → kept_by (map deletion_of ranges) index ≡ not (is_in_runs ranges index)
kept_by-deletions ranges index = ap (λ runs. not (is_in_runs runs index)) (runs-deletions ranges)

module _ (ranges others : List Run) (moved : IsPermutation ranges others) where
  kept_by-moved : (index : ℕ) → kept_by (map deletion_of ranges) index ≡ kept_by (map deletion_of others) index
  kept_by-moved index =
      kept_by-deletions ranges index ∙
      ap not (list_any-IsPermutation (λ run. nat_le run.start index && nat_lt index run.end) ranges others moved) ∙
      sym (kept_by-deletions others index)

  added_by-moved : (gap : ℕ) → added_by (map deletion_of ranges) gap ≡ added_by (map deletion_of others) gap
  added_by-moved gap =
      added_by-none (map deletion_of ranges) gap (texts-none ranges) ∙ sym (added_by-none (map deletion_of others) gap (texts-none others))

  gap_with-moved : (gap : ℕ) → gap_with (map deletion_of ranges) gap ≡ gap_with (map deletion_of others) gap
  gap_with-moved gap = ap₂ (λ kept added. mapped_gap kept added false gap) (fun_ext kept_by-moved) (fun_ext added_by-moved)

  pub AreInOrder-sorted : (base : ℕ) → IsNonDecreasingBy (λ range. range.start) others →
      AllByRecursion (λ range. (range.start ≤ range.end) × (range.end ≤ base)) ranges → AreInOrder base 0 (map deletion_of others)
  AreInOrder-sorted base rises all =
      let inside =
      recursion_from_All (IsRangeOf base) others (All-permutation (IsRangeOf base) ranges others moved (All-from_recursion (IsRangeOf base) ranges all)) in
      AreInOrder-rising base 0 others rises (λ d some. omega arith) inside

  pub carets_with-moved : OrderDoesNotMatter → carets_with (map deletion_of others) ≡ carets_with (map deletion_of ranges)
  carets_with-moved law =
      let place : Replacement → Region = λ r. caret_of (gap_with (map deletion_of ranges) r.range.start) in
      ap (λ f. selection_of (map f (map deletion_of others))) (fun_ext (λ r. ap caret_of (sym (gap_with-moved r.range.start)))) ∙
      sym
      (law (map place (map deletion_of ranges)) (map place (map deletion_of others))
      (IsPermutation-map place (map deletion_of ranges) (map deletion_of others) (IsPermutation-map deletion_of ranges others moved)))

  pub IsEditOf-moved : (base : ℕ) (units : UnitDelta) → IsEditOf base (map deletion_of others) units → IsEditOf base (map deletion_of ranges) units
  IsEditOf-moved base units is = record {
    canonical = is.canonical;
    of = is.of;
    kept = λ index inside. is.kept index inside ∙ sym (kept_by-moved index);
    added = λ gap. is.added gap ∙ sym (added_by-moved gap);
  }

  pub AreWithin-moved : (base : ℕ) (regions : List Region) → AreWithin (gap_with (map deletion_of others) base) regions →
      AreWithin (gap_with (map deletion_of ranges) base) regions
  AreWithin-moved base regions within = subst (λ len. AreWithin len regions) (sym (gap_with-moved base)) within
