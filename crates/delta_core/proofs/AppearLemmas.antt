-- The unit delta between two visible lists of a union of which the characters that appear are known.
use Rattle.std.proofs.Common.{◌≡◌, ℕ, zero, suc, true, false, Bool, ◌+◌, ◌≤◌, List, [], ◌∷◌, ◌++◌, length, take, drop, replicate, take-append-drop, refl, ap, ap₂, sym, ◌∙◌, arith, length-append, length-drop, length-take-le}
use Rattle.std.proofs.lemmas.List.{length-replicate}
use Rattle.std.specs.Prelude.{if◌then◌else◌, ◌==◌, ◌||◌}
use Rattle.plain_edits.specs.declared.delta.UnitDelta.{UnitDelta}
use Rattle.plain_edits.specs.Delta.{is_in_runs}
use Rattle.plain_edits.specs.UnitDelta.{IsCanonical, unit_keeps, unit_adds}
use Rattle.subset_runs.specs.Subset.{count, minus}
use Rattle.delta_core.specs.Synthesis.{IsBetweenWith, all_appearing}
use Rattle.delta_core.specs.Inner.{GrowsByBlock, PutsBlock, appears, run_to}
use Rattle.delta_core.proofs.SynthesisLemmas.{GrowsByBlock-kept, GrowsByBlock-passed, GrowsByBlock-added, GrowsByBlock-none, IsReading, IsReading-start, IsReading-next, IsBetween-all}

-- ---- one stretch

pub PutsBlock-kept : (rest : List ℕ) (n : ℕ) (old new : UnitDelta) → new.base ≡ old.base + n →
    ((index : ℕ) → unit_keeps new index ≡ (unit_keeps old index || is_in_runs (run_to old.base (old.base + n) ∷ []) index)) →
    ((gap : ℕ) → unit_adds new gap ≡ unit_adds old gap) → PutsBlock rest n false false old new rest
PutsBlock-kept rest n old new base kept added =
    record { base = base; grows = λ cs width is. GrowsByBlock-kept cs old new n width base kept added; left = refl }

pub PutsBlock-passed : (rest : List ℕ) (n : ℕ) (old new : UnitDelta) → new.base ≡ old.base + n →
    ((index : ℕ) → unit_keeps new index ≡ unit_keeps old index) → ((gap : ℕ) → unit_adds new gap ≡ unit_adds old gap) →
    PutsBlock rest n false true old new rest
PutsBlock-passed rest n old new base kept added =
    record { base = base; grows = λ cs width is. GrowsByBlock-passed cs old new n width base kept added; left = refl }

pub PutsBlock-added : (rest front : List ℕ) (n : ℕ) (old new : UnitDelta) → front ≡ take n rest → new.base ≡ old.base →
    ((index : ℕ) → unit_keeps new index ≡ unit_keeps old index) →
    ((gap : ℕ) → unit_adds new gap ≡ unit_adds old gap ++ (if old.base == gap then front else [])) →
    PutsBlock rest n true false old new (drop n rest)
PutsBlock-added rest front n old new front_is base kept added = record {
  base = omega (arith, base);
  grows = λ cs width is.
      GrowsByBlock-added cs old new base kept
      (λ gap. added gap ∙ ap (λ (text : List ℕ). unit_adds old gap ++ (if old.base == gap then text else [])) (front_is ∙ sym (is refl)));
  left = refl;
}

pub PutsBlock-none : (rest : List ℕ) (n : ℕ) (units : UnitDelta) → PutsBlock rest n true true units units rest
PutsBlock-none rest n units = record { base = omega arith; grows = λ cs width is. GrowsByBlock-none cs units; left = refl }

take_whole : (cs : List ℕ) → cs ≡ take (length cs) cs
take_whole [] = refl
take_whole (c ∷ cs) = ap (λ rest. c ∷ rest) (take_whole cs)

-- where the stretch is all that is given
pub GrowsByBlock-whole : (rest front others : List ℕ) (n : ℕ) (dead_before dead_after : Bool) (old new : UnitDelta) →
    PutsBlock front n dead_before dead_after old new others → front ≡ take n rest → n ≤ length rest → GrowsByBlock front dead_before dead_after old new
GrowsByBlock-whole rest front others n dead_before dead_after old new puts front_is fits =
    let width : length front ≡ n = ap length front_is ∙ length-take-le n rest fits in
    puts.grows front width (λ yes. take_whole front ∙ ap (λ k. take k front) width)

-- ---- what appears of a stretch

count_front : (n : ℕ) (dead_before dead_after : Bool) (before after : List Bool) →
    count (minus (replicate n dead_before ++ before) (replicate n dead_after ++ after)) ≡
    (if appears dead_before dead_after then n else 0) + count (minus before after)
count_front zero true true before after = omega arith
count_front zero true false before after = omega arith
count_front zero false dead before after = omega arith
count_front (suc n) true true before after = omega (arith, count_front n true true before after)
count_front (suc n) true false before after = omega (arith, count_front n true false before after)
count_front (suc n) false dead before after = omega (arith, count_front n false dead before after)

appearing_front : (front back : List ℕ) (dead_before dead_after : Bool) (before after : List Bool) →
    all_appearing (front ++ back) (replicate (length front) dead_before ++ before) (replicate (length front) dead_after ++ after) ≡
    (if appears dead_before dead_after then front else []) ++ all_appearing back before after
appearing_front [] back true true before after = refl
appearing_front [] back true false before after = refl
appearing_front [] back false dead before after = refl
appearing_front (c ∷ front) back true true before after = appearing_front front back true true before after
appearing_front (c ∷ front) back true false before after = ap (λ cs. c ∷ cs) (appearing_front front back true false before after)
appearing_front (c ∷ front) back false dead before after = appearing_front front back false dead before after

take_front : (front back : List ℕ) → take (length front) (front ++ back) ≡ front
take_front [] back = refl
take_front (c ∷ front) back = ap (λ cs. c ∷ cs) (take_front front back)

drop_front : (front back : List ℕ) → drop (length front) (front ++ back) ≡ back
drop_front [] back = refl
drop_front (c ∷ front) back = drop_front front back

-- where the stretch appears it is in front of what is left
parted : (appears : Bool) (front back rest : List ℕ) (n : ℕ) → length front ≡ n → (if appears then front else []) ++ back ≡ rest →
    (appears ≡ true → front ≡ take n rest) × (back ≡ (if appears then drop n rest else rest))
parted true front back rest n width is = (
  λ yes. sym (take_front front back) ∙ ap₂ (λ k (cs : List ℕ). take k cs) width is,
  sym (drop_front front back) ∙ ap₂ (λ k (cs : List ℕ). drop k cs) width is,
)
parted false front back rest n width is = (λ yes. absurd cc, is)

-- ---- a union as far as it was walked, of which the characters that appear are known

pub record IsReadingWith (appear : List ℕ) (all_before all_after : List Bool) (units : UnitDelta) (rest : List ℕ) (before after : List Bool) : Type 0 where
  pub same : length before ≡ length after
  pub within : units.base + length before ≤ length all_before
  pub as_many : count (minus before after) ≡ length rest
  pub each : (union : List ℕ) → length union ≡ length all_before → all_appearing union all_before all_after ≡ appear →
      (here : List ℕ) × IsReading union all_before all_after units here before after × (all_appearing here before after ≡ rest)

pub IsReadingWith-start : (appear rest : List ℕ) (all_before all_after before after : List Bool) (units : UnitDelta) →
    length all_before ≡ length all_after → count (minus all_before all_after) ≡ length appear →
    rest ≡ appear → before ≡ all_before → after ≡ all_after → units.base ≡ 0 → ((index : ℕ) → unit_keeps units index ≡ false) →
    ((gap : ℕ) → unit_adds units gap ≡ []) → IsReadingWith appear all_before all_after units rest before after
IsReadingWith-start appear rest all_before all_after before after units same as_many rest_is before_is after_is base kept added =
    rw (rest_is, before_is, after_is) record {
      same = same;
      within = omega (arith, base);
      as_many = as_many;
      each = λ union width is. (
        union,
        IsReading-start union union all_before all_after all_before all_after units width (width ∙ same) refl refl refl base kept added,
        is,
      );
    }

long_front : (n : ℕ) (dead : Bool) (flags own : List Bool) → flags ≡ replicate n dead ++ own → length flags ≡ n + length own
long_front n dead flags own is =
    ap length is ∙ length-append (replicate n dead) own ∙ ap (λ k. k + length own) (length-replicate n dead)

-- the stretch is there
pub IsReadingWith-room : (appear : List ℕ) (all_before all_after : List Bool) (units : UnitDelta) (rest : List ℕ) (before after own other : List Bool) (n : ℕ)
    (dead_before dead_after : Bool) → IsReadingWith appear all_before all_after units rest before after → before ≡ replicate n dead_before ++ own →
    after ≡ replicate n dead_after ++ other → (appears dead_before dead_after ≡ true → n ≤ length rest) × (units.base + n ≤ length all_before)
IsReadingWith-room appear all_before all_after units rest before after own other n dead_before dead_after reading own_is other_is =
    let all : (if appears dead_before dead_after then n else 0) + count (minus own other) ≡ length rest =
    sym (count_front n dead_before dead_after own other) ∙ (ap₂ (λ b a. count (minus b a)) (sym own_is) (sym other_is) ∙ reading.as_many) in (
      λ yes.
          let some : n + count (minus own other) ≡ length rest = ap (λ b. (if b then n else 0) + count (minus own other)) (sym yes) ∙ all in
          omega (arith, some),
      omega (arith, reading.within, long_front n dead_before before own own_is),
    )

if_more : (appears : Bool) (n k total : ℕ) (rest : List ℕ) → (if appears then n else 0) + k ≡ total → total ≡ length rest →
    k ≡ length (if appears then drop n rest else rest)
if_more true n k total rest all is = omega (arith, all, is, length-drop n rest)
if_more false n k total rest all is = omega (arith, all, is)

pub IsReadingWith-next : (appear : List ℕ) (all_before all_after : List Bool) (units new : UnitDelta) (rest left : List ℕ) (before after own other : List Bool)
    (n : ℕ) (dead_before dead_after : Bool) → IsReadingWith appear all_before all_after units rest before after → before ≡ replicate n dead_before ++ own →
    after ≡ replicate n dead_after ++ other → PutsBlock rest n dead_before dead_after units new left →
    IsReadingWith appear all_before all_after new left own other
IsReadingWith-next appear all_before all_after units new rest left before after own other n dead_before dead_after reading own_is other_is puts =
    let long_before = long_front n dead_before before own own_is in
    let long_after = long_front n dead_after after other other_is in
    let all : (if appears dead_before dead_after then n else 0) + count (minus own other) ≡ count (minus before after) =
    sym (count_front n dead_before dead_after own other) ∙ ap₂ (λ b a. count (minus b a)) (sym own_is) (sym other_is) in
    record {
      same = omega (arith, reading.same, long_before, long_after);
      within = omega (arith, reading.within, long_before, puts.base, if_zero dead_before);
      as_many =
          if_more (appears dead_before dead_after) n (count (minus own other)) (count (minus before after)) rest all reading.as_many ∙
          ap length (sym puts.left);
      each = λ union width is.
          let here = (reading.each union width is).0 in
          let read : IsReading union all_before all_after units here before after = (reading.each union width is).1 in
          let fits : n ≤ length here = omega (arith, read.same_before, long_before) in
          let front_width : length (take n here) ≡ n = length-take-le n here fits in
          let parts = parted (appears dead_before dead_after) (take n here) (all_appearing (drop n here) own other) rest n front_width
          (stretch here front_width ∙ (reading.each union width is).2) in (
            drop n here,
            IsReading-next union all_before all_after units new here (take n here) (drop n here) before after own other n dead_before dead_after
                read own_is other_is refl refl (puts.grows (take n here) front_width parts.0),
            parts.1 ∙ sym puts.left,
          );
    }
  where
    if_zero : (dead : Bool) → (if dead then 0 else n) ≤ n
    if_zero true = omega arith
    if_zero false = omega arith

    stretch : (here : List ℕ) → length (take n here) ≡ n →
        (if appears dead_before dead_after then take n here else []) ++ all_appearing (drop n here) own other ≡ all_appearing here before after
    stretch here width =
        sym (appearing_front (take n here) (drop n here) dead_before dead_after own other) ∙
        (ap (λ k. all_appearing (take n here ++ drop n here) (replicate k dead_before ++ own) (replicate k dead_after ++ other)) width ∙
        (ap (λ cs. all_appearing cs (replicate n dead_before ++ own) (replicate n dead_after ++ other)) (take-append-drop n here) ∙
        ap₂ (λ b a. all_appearing here b a) (sym own_is) (sym other_is)))

pub IsBetweenWith-all : (appear : List ℕ) (all_before all_after : List Bool) (units result : UnitDelta) (rest : List ℕ) (before after : List Bool) →
    IsReadingWith appear all_before all_after units rest before after → length all_before ≡ length all_after → before ≡ [] →
    IsCanonical result → result.base ≡ units.base → ((index : ℕ) → unit_keeps result index ≡ unit_keeps units index) →
    ((gap : ℕ) → unit_adds result gap ≡ unit_adds units gap) → IsBetweenWith appear all_before all_after result
IsBetweenWith-all appear all_before all_after units result rest before after reading same done canonical base kept added = record {
  canonical = canonical;
  each = λ union width is.
      let here = reading.each union width is in
      IsBetween-all union all_before all_after units result here.0 before after here.1 width (width ∙ same) done canonical base kept added;
}
