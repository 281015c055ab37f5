-- Regions that an edit moves: they lie in the text after it, and without their goals they are the same selection.
use Rattle.std.proofs.Common.{◌≡◌, ◌≢◌, ℕ, zero, suc, ◌+◌, ◌≤◌, Bool, true, false, cond, List, [], ◌∷◌, length, map, Option, Some, None, Result, Ok, Err, refl, ap, ap₂, sym, subst, arith}
use Rattle.std.specs.Prelude.{if◌then◌else◌, ◌||◌, min, max, IfOk}
use Rattle.std.specs.List.{range_with_len, sum_by}
use Rattle.std.specs.Option.{is_some}
use Rattle.std.proofs.lemmas.List.Sums.{sum_by-cons}
use Rattle.plain_text.specs.declared.selection.Region.{Region}
use Rattle.plain_text.specs.declared.selection.Sel.{Sel}
use Rattle.plain_edits.specs.declared.delta.UnitDelta.{UnitDelta}
use Rattle.plain_edits.specs.UnitDelta.{unit_adds, unit_keeps}
use Rattle.edit_ops.specs.Regions.{without_goal}
use Rattle.doc_view.specs.declared.moved.Goals.{Goals}
use Rattle.doc_view.specs.Moved.{AreMoved, with_goals}
use Rattle.doc_view.specs.Inner.{has_goal}
use Rattle.selection_core.specs.Mapped.{AreWithin, length_after, mapped_region, mapped_regions, new_gap}
use Rattle.selection_core.specs.Selection.{AreRightOf, IsSelection, greater_end, is_forward, joined, lesser_end, meets, merged_from, merged_regions, spanning}

-- ---- without goals

AreRightOf-plain : (last : Region) (regions : List Region) → AreRightOf last regions → AreRightOf (without_goal last) (map without_goal regions)
AreRightOf-plain last [] are = tt
AreRightOf-plain last (region ∷ regions) are = (are.0, are.1, AreRightOf-plain region regions are.2)

pub IsSelection-plain : (regions : List Region) → IsSelection regions → IsSelection (map without_goal regions)
IsSelection-plain [] is = tt
IsSelection-plain (region ∷ regions) is = AreRightOf-plain region regions is

pub AreWithin-plain : (len : ℕ) (regions : List Region) → AreWithin len regions → AreWithin len (map without_goal regions)
AreWithin-plain len [] are = tt
AreWithin-plain len (region ∷ regions) are = (are.0, AreWithin-plain len regions are.1)

-- regions of which none has a goal stay
neither : (a b : Bool) → (a || b) ≡ false → (a ≡ false) × (b ≡ false)
neither false false is = (refl, refl)
neither true b is = absurd cc
neither false true is = absurd cc

none-is : {X : Type 0} (o : Option X) → is_some o ≡ false → o ≡ None
none-is None is = refl
none-is (Some x) is = absurd cc

pub plain-stays : (regions : List Region) → has_goal regions ≡ false → map without_goal regions ≡ regions
plain-stays [] none = refl
plain-stays (region ∷ regions) none =
    let both = neither (is_some region.goal) (has_goal regions) none in
    ap₂ (λ (r : Region) (rs : List Region). r ∷ rs) (ap (λ goal. record region { goal = goal }) (sym (none-is region.goal both.0))) (plain-stays regions both.1)

-- ---- gaps after an edit

sum-more : (f : ℕ → ℕ) (from n m : ℕ) → n ≤ m → sum_by f (range_with_len from n) ≤ sum_by f (range_with_len from m)
sum-more f from zero m le = omega arith
sum-more f from (suc n) zero le = absurd (omega arith)
sum-more f from (suc n) (suc m) le =
    omega (
      arith,
      sum_by-cons f from (range_with_len (from + 1) n),
      sum_by-cons f from (range_with_len (from + 1) m),
      sum-more f (from + 1) n m (omega arith),
    )

new_gap-within : (units : UnitDelta) (after : Bool) (gap : ℕ) → gap ≤ units.base → new_gap units after gap ≤ length_after units
new_gap-within units true gap inside =
    omega (
      arith,
      sum-more (λ index. cond (unit_keeps units index) 1 0) 0 gap units.base inside,
      sum-more (λ left. length (unit_adds units left)) 0 gap (units.base + 1) (omega arith),
    )
new_gap-within units false gap inside =
    omega (
      arith,
      sum-more (λ index. cond (unit_keeps units index) 1 0) 0 gap units.base inside,
      sum-more (λ left. length (unit_adds units left)) 0 (gap + 1) (units.base + 1) (omega arith),
    )

-- ---- regions after an edit

ends-within : (a b len : ℕ) → max a b ≤ len → (a ≤ len) × (b ≤ len)
ends-within a b len le = (omega (arith, le), omega (arith, le))

region-within : (units : UnitDelta) (after : Bool) (region : Region) → greater_end region ≤ units.base →
    greater_end (mapped_region units after region) ≤ length_after units
region-within units after region inside =
    let ends = ends-within region.anchor region.caret units.base inside in
    omega (arith, new_gap-within units after region.anchor ends.0, new_gap-within units after region.caret ends.1)

AreWithin-moved : (units : UnitDelta) (after : Bool) (regions : List Region) → AreWithin units.base regions →
    AreWithin (length_after units) (map (mapped_region units after) regions)
AreWithin-moved units after [] are = tt
AreWithin-moved units after (region ∷ regions) are = (region-within units after region are.0, AreWithin-moved units after regions are.1)

spanning-le : (b : Bool) (from to len : ℕ) → from ≤ len → to ≤ len → greater_end (spanning b from to) ≤ len
spanning-le true from to len a b = omega arith
spanning-le false from to len a b = omega arith

joined-le : (len : ℕ) (one other : Region) → greater_end one ≤ len → greater_end other ≤ len → greater_end (joined one other) ≤ len
joined-le len one other a b =
    spanning-le (is_forward one || is_forward other) (min (lesser_end one) (lesser_end other)) (max (greater_end one) (greater_end other)) len
    (let le = a in let more = b in omega arith) (let le = a in let more = b in omega arith)

AreWithin-merged_from : (len : ℕ) (last : Region) (regions : List Region) → greater_end last ≤ len → AreWithin len regions → AreWithin len (merged_from last regions)
AreWithin-merged_from len last [] le within = (le, tt)
AreWithin-merged_from len last (region ∷ regions) le within =
    by (meets last region) (AreWithin-merged_from len (joined last region) regions (joined-le len last region le within.0) within.1)
    (AreWithin-merged_from len region regions within.0 within.1)
  where
    by : (b : Bool) → AreWithin len (merged_from (joined last region) regions) → AreWithin len (merged_from region regions) →
        AreWithin len (if b then merged_from (joined last region) regions else last ∷ merged_from region regions)
    by true one other = one
    by false one other = (le, other)

AreWithin-merged : (len : ℕ) (regions : List Region) → AreWithin len regions → AreWithin len (merged_regions regions)
AreWithin-merged len [] within = tt
AreWithin-merged len (region ∷ regions) within = AreWithin-merged_from len region regions within.0 within.1

pub AreWithin-mapped : (units : UnitDelta) (after : Bool) (regions : List Region) → AreWithin units.base regions →
    AreWithin (length_after units) (mapped_regions units after regions)
AreWithin-mapped units after regions are = AreWithin-merged (length_after units) (map (mapped_region units after) regions) (AreWithin-moved units after regions are)

-- so they are the regions that the edit leaves
pub AreMoved-map : {E : Type 0} (units : UnitDelta) (after : Bool) (goals : Goals) (regions : List Region) (result : Result Sel E) →
    AreWithin units.base (with_goals goals regions) →
    IfOk result (λ sel. sel.regions ≡ mapped_regions units after (with_goals goals regions)) → IfOk result (λ sel. IsSelection sel.regions) →
    IfOk result (λ sel. AreMoved units after goals regions sel.regions)
AreMoved-map units after goals regions (Ok sel) within is sound = record {
  is = is;
  sound = sound;
  inside = subst (AreWithin (length_after units)) (sym is) (AreWithin-mapped units after (with_goals goals regions) within);
}
AreMoved-map units after goals regions (Err error) within is sound = tt

pub some-plain : (regions : List Region) → regions ≢ [] → map without_goal regions ≢ []
some-plain [] some = λ none. some refl
some-plain (region ∷ regions) some = λ none. cc
