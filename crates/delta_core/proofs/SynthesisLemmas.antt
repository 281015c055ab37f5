-- Lemmas on the unit delta between two visible lists of one union.
use Rattle.std.proofs.Common.{◌≡◌, ℕ, zero, suc, true, false, Bool, not, ◌+◌, ◌-◌, ◌<◌, ◌≤◌, List, [], ◌∷◌, ◌++◌, length, take, drop, replicate, append-nil, append_assoc, take-append-drop, refl, ap, sym, ◌∙◌, arith, length-append, length-drop, length-take-le}
use Rattle.std.proofs.lemmas.List.{length-replicate}
use Rattle.std.specs.Prelude.{if◌then◌else◌, ◌==◌, ◌||◌, ◌&&◌}
use Rattle.std.proofs.lemmas.Bool.Decides.{nat_tests}
use Rattle.std.proofs.Math.Bool.{or_assoc}
use Rattle.plain_edits.specs.declared.delta.UnitDelta.{UnitDelta}
use Rattle.plain_text.specs.Woven.{woven}
use Rattle.plain_edits.specs.Delta.{is_in_runs}
use Rattle.plain_edits.specs.UnitDelta.{IsCanonical, unit_keeps, unit_adds}
use Rattle.subset_runs.specs.Subset.{contains, complement, items_outside, shrink}
use Rattle.delta_core.specs.Inner.{run_to}
use Rattle.delta_core.specs.Synthesis.{appearing, IsBetween}
use Rattle.delta_core.specs.Inner.{member_from, GrowsByBlock}
use Rattle.delta_core.proofs.UnitLemmas.{applied-same}

-- ---- flags and characters that are alike alive or dead

shrink_alive : (n : ℕ) (dead : Bool) (before after : List Bool) →
    shrink (complement (replicate n dead ++ after)) (replicate n false ++ before) ≡ replicate n (not dead) ++ shrink (complement after) before
shrink_alive zero dead before after = refl
shrink_alive (suc n) dead before after = ap (λ flags. not dead ∷ flags) (shrink_alive n dead before after)

shrink_dead : (n : ℕ) (dead : Bool) (before after : List Bool) →
    shrink (complement (replicate n dead ++ after)) (replicate n true ++ before) ≡ shrink (complement after) before
shrink_dead zero dead before after = refl
shrink_dead (suc n) dead before after = shrink_dead n dead before after

member_from-none : (n at end index : ℕ) (flags : List Bool) → end ≡ at + n → member_from at (replicate n false ++ flags) index ≡ member_from end flags index
member_from-none zero at end index flags far = let here : at ≡ end = omega arith in ap (λ k. member_from k flags index) here
member_from-none (suc n) at end index flags far = member_from-none n (at + 1) end index flags (omega arith)

one_more : (at end index : ℕ) (rest : Bool) → at < end →
    ((at == index) || (is_in_runs (run_to (at + 1) end ∷ []) index || rest)) ≡ (is_in_runs (run_to at end ∷ []) index || rest)
one_more at end index rest less = grind (arith, nat_tests)

member_from-all : (n at end index : ℕ) (flags : List Bool) → end ≡ at + n →
    member_from at (replicate n true ++ flags) index ≡ (is_in_runs (run_to at end ∷ []) index || member_from end flags index)
member_from-all zero at end index flags far =
    let here : at ≡ end = omega arith in
    let empty : is_in_runs (run_to at end ∷ []) index ≡ false = grind (arith, nat_tests) in
    rw empty (ap (λ k. member_from k flags index) here)
member_from-all (suc n) at end index flags far =
    ap (λ b. (at == index) || b) (member_from-all n (at + 1) end index flags (omega arith)) ∙ one_more at end index (member_from end flags index) (omega arith)

appearing_alive : (cs union : List ℕ) (before after : List Bool) (dead : Bool) (at end gap : ℕ) → end ≡ at + length cs →
    appearing at (cs ++ union) (replicate (length cs) false ++ before) (replicate (length cs) dead ++ after) gap ≡ appearing end union before after gap
appearing_alive [] union before after dead at end gap far = let here : at ≡ end = omega arith in ap (λ k. appearing k union before after gap) here
appearing_alive (c ∷ cs) union before after dead at end gap far = appearing_alive cs union before after dead (at + 1) end gap (omega arith)

appearing_dead : (cs union : List ℕ) (before after : List Bool) (at gap : ℕ) →
    appearing at (cs ++ union) (replicate (length cs) true ++ before) (replicate (length cs) true ++ after) gap ≡ appearing at union before after gap
appearing_dead [] union before after at gap = refl
appearing_dead (c ∷ cs) union before after at gap = appearing_dead cs union before after at gap

if_cons : (b : Bool) (c : ℕ) (cs rest : List ℕ) → (if b then c ∷ [] else []) ++ ((if b then cs else []) ++ rest) ≡ (if b then c ∷ cs else []) ++ rest
if_cons true c cs rest = refl
if_cons false c cs rest = refl

if_nil : (b : Bool) (rest : List ℕ) → rest ≡ (if b then [] else []) ++ rest
if_nil true rest = refl
if_nil false rest = refl

appearing_new : (cs union : List ℕ) (before after : List Bool) (at gap : ℕ) →
    appearing at (cs ++ union) (replicate (length cs) true ++ before) (replicate (length cs) false ++ after) gap ≡
    (if at == gap then cs else []) ++ appearing at union before after gap
appearing_new [] union before after at gap = if_nil (at == gap) (appearing at union before after gap)
appearing_new (c ∷ cs) union before after at gap =
    ap (λ t. (if at == gap then c ∷ [] else []) ++ t) (appearing_new cs union before after at gap) ∙ if_cons (at == gap) c cs (appearing at union before after gap)

-- ---- one stretch

pub GrowsByBlock-kept : (cs : List ℕ) (old new : UnitDelta) (n : ℕ) → length cs ≡ n → new.base ≡ old.base + n →
    ((index : ℕ) → unit_keeps new index ≡ (unit_keeps old index || is_in_runs (run_to old.base (old.base + n) ∷ []) index)) →
    ((gap : ℕ) → unit_adds new gap ≡ unit_adds old gap) → GrowsByBlock cs false false old new
GrowsByBlock-kept cs old new n same base kept added = record {
  base = omega arith;
  kept = λ before after index.
      rw (kept index, shrink_alive (length cs) false before after, member_from-all (length cs) old.base new.base index (shrink (complement after) before) (omega arith), base)
      (or_assoc (unit_keeps old index) (is_in_runs (run_to old.base (old.base + n) ∷ []) index) (member_from (old.base + n) (shrink (complement after) before) index));
  added = λ union before after gap.
      rw (added gap, appearing_alive cs union before after false old.base new.base gap (omega arith)) refl;
}

pub GrowsByBlock-passed : (cs : List ℕ) (old new : UnitDelta) (n : ℕ) → length cs ≡ n → new.base ≡ old.base + n →
    ((index : ℕ) → unit_keeps new index ≡ unit_keeps old index) → ((gap : ℕ) → unit_adds new gap ≡ unit_adds old gap) → GrowsByBlock cs false true old new
GrowsByBlock-passed cs old new n same base kept added = record {
  base = omega arith;
  kept = λ before after index.
      rw (kept index, shrink_alive (length cs) true before after, member_from-none (length cs) old.base new.base index (shrink (complement after) before) (omega arith)) refl;
  added = λ union before after gap.
      rw (added gap, appearing_alive cs union before after true old.base new.base gap (omega arith)) refl;
}

pub GrowsByBlock-added : (cs : List ℕ) (old new : UnitDelta) → new.base ≡ old.base → ((index : ℕ) → unit_keeps new index ≡ unit_keeps old index) →
    ((gap : ℕ) → unit_adds new gap ≡ unit_adds old gap ++ (if old.base == gap then cs else [])) → GrowsByBlock cs true false old new
GrowsByBlock-added cs old new base kept added = record {
  base = omega arith;
  kept = λ before after index. rw (kept index, base, shrink_dead (length cs) false before after) refl;
  added = λ union before after gap.
      rw (added gap, base, appearing_new cs union before after old.base gap)
      (append_assoc (unit_adds old gap) (if old.base == gap then cs else []) (appearing old.base union before after gap));
}

pub GrowsByBlock-none : (cs : List ℕ) (units : UnitDelta) → GrowsByBlock cs true true units units
GrowsByBlock-none cs units = record {
  base = omega arith;
  kept = λ before after index. rw (shrink_dead (length cs) true before after) refl;
  added = λ union before after gap. rw (appearing_dead cs union before after units.base gap) refl;
}

-- ---- the union as far as it was walked

pub record IsReading (union : List ℕ) (all_before all_after : List Bool) (units : UnitDelta) (rest : List ℕ) (before after : List Bool) : Type 0 where
  pub same_before : length rest ≡ length before
  pub same_after : length rest ≡ length after
  pub within : units.base + length rest ≤ length union
  pub base : units.base + length (items_outside before rest) ≡ length (items_outside all_before union)
  pub kept : (index : ℕ) →
      (unit_keeps units index || member_from units.base (shrink (complement after) before) index) ≡ contains (shrink (complement all_after) all_before) index
  pub added : (gap : ℕ) → unit_adds units gap ++ appearing units.base rest before after gap ≡ appearing 0 union all_before all_after gap

member_from-before : (at index : ℕ) (flags : List Bool) → index < at → member_from at flags index ≡ false
member_from-before at index [] less = refl
member_from-before at index (flag ∷ flags) less =
    let rest = member_from-before (at + 1) index flags (omega arith) in
    let other : (at == index) ≡ false = grind (arith, nat_tests) in
    rw (rest, other) (and_false flag)
  where
    and_false : (b : Bool) → ((b && false) || false) ≡ false
    and_false true = refl
    and_false false = refl

member_from-contains : (flags : List Bool) (at i index : ℕ) → index ≡ at + i → member_from at flags index ≡ contains flags i
member_from-contains [] at i index is = refl
member_from-contains (flag ∷ flags) at zero index is =
    let rest = member_from-before (at + 1) index flags (omega arith) in
    let same : (at == index) ≡ true = grind (arith, nat_tests) in
    rw (rest, same) (and_true flag)
  where
    and_true : (b : Bool) → ((b && true) || false) ≡ b
    and_true true = refl
    and_true false = refl
member_from-contains (flag ∷ flags) at (suc i) index is =
    let other : (at == index) ≡ false = grind (arith, nat_tests) in
    rw other (and_none flag (member_from (at + 1) flags index) ∙ member_from-contains flags (at + 1) i index (omega arith))
  where
    and_none : (b rest : Bool) → ((b && false) || rest) ≡ rest
    and_none true rest = refl
    and_none false rest = refl

pub IsReading-start : (union rest : List ℕ) (before after : List Bool) (own other : List Bool) (units : UnitDelta) → length union ≡ length before → length union ≡ length after →
    rest ≡ union → own ≡ before → other ≡ after → units.base ≡ 0 → ((index : ℕ) → unit_keeps units index ≡ false) → ((gap : ℕ) → unit_adds units gap ≡ []) →
    IsReading union before after units rest own other
IsReading-start union rest before after own other units one two text_is own_is other_is base kept added = rw (text_is, own_is, other_is) (record {
  same_before = one;
  same_after = two;
  within = omega arith;
  base = omega (arith, base);
  kept = λ index. rw (kept index, base) (member_from-contains (shrink (complement after) before) 0 index index (omega arith));
  added = λ gap. rw (added gap, base) refl;
})

outside_front : (n : ℕ) (dead : Bool) (before : List Bool) (text : List ℕ) → n ≤ length text →
    length (items_outside (replicate n dead ++ before) text) ≡ (if dead then 0 else n) + length (items_outside before (drop n text))
outside_front zero true before text within = omega arith
outside_front zero false before text within = omega arith
outside_front (suc n) dead before [] within = absurd (omega arith)
outside_front (suc n) true before (c ∷ text) within = omega (arith, outside_front n true before text (omega arith))
outside_front (suc n) false before (c ∷ text) within = omega (arith, outside_front n false before text (omega arith))

if_zero : (dead : Bool) (n : ℕ) → (if dead then 0 else n) ≤ n
if_zero true n = omega arith
if_zero false n = omega arith

pub IsReading-next : (union : List ℕ) (all_before all_after : List Bool) (units new : UnitDelta) (rest front back : List ℕ) (before after own other : List Bool) (n : ℕ) (dead_before dead_after : Bool) →
    IsReading union all_before all_after units rest before after → before ≡ replicate n dead_before ++ own → after ≡ replicate n dead_after ++ other →
    front ≡ take n rest → back ≡ drop n rest → GrowsByBlock front dead_before dead_after units new → IsReading union all_before all_after new back own other
IsReading-next union all_before all_after units new rest front back before after own other n dead_before dead_after reading own_is other_is front_is back_is grown =
    let long_before : length before ≡ n + length own = ap length own_is ∙ length-append (replicate n dead_before) own ∙ ap (λ k. k + length own) (length-replicate n dead_before) in
    let long_after : length after ≡ n + length other = ap length other_is ∙ length-append (replicate n dead_after) other ∙ ap (λ k. k + length other) (length-replicate n dead_after) in
    let fits : n ≤ length rest = omega (arith, reading.same_before) in
    let width : length front ≡ n = ap length front_is ∙ length-take-le n rest fits in
    let left : length back ≡ length rest - n = ap length back_is ∙ length-drop n rest in
    let whole : front ++ back ≡ rest = rw (front_is, back_is) (take-append-drop n rest) in
    let outside : length (items_outside before rest) ≡ (if dead_before then 0 else n) + length (items_outside own back) =
    rw (own_is, back_is) (outside_front n dead_before own rest fits) in
    let base : new.base ≡ units.base + (if dead_before then 0 else n) = grown.base ∙ ap (λ k. units.base + (if dead_before then 0 else k)) width in
    record {
      same_before = omega (arith, reading.same_before);
      same_after = omega (arith, reading.same_after);
      within = omega (arith, reading.within, if_zero dead_before n);
      base = omega (arith, reading.base, outside, base);
      kept = λ index.
          grown.kept own other index ∙ rw (width, ← own_is, ← other_is) (reading.kept index);
      added = λ gap.
          grown.added back own other gap ∙ rw (width, ← own_is, ← other_is, whole) (reading.added gap);
    }

pub reading_room : (union : List ℕ) (all_before all_after : List Bool) (units : UnitDelta) (rest : List ℕ) (before after own : List Bool) (n : ℕ) (dead : Bool) →
    IsReading union all_before all_after units rest before after → before ≡ replicate n dead ++ own → (n ≤ length rest) × (units.base + n ≤ length union)
reading_room union all_before all_after units rest before after own n dead reading own_is =
    let long : length before ≡ n + length own = ap length own_is ∙ length-append (replicate n dead) own ∙ ap (λ k. k + length own) (length-replicate n dead) in
    (omega (arith, reading.same_before), omega (arith, reading.same_before, reading.within))

-- ---- the text after

woven-same : (f f' : ℕ → List ℕ) (k k' : ℕ → Bool) (gap : ℕ) (text : List ℕ) → ((j : ℕ) → gap ≤ j → f j ≡ f' j) → ((j : ℕ) → gap ≤ j → k j ≡ k' j) →
    woven f (λ index c. if k index then c ∷ [] else []) gap text ≡ woven f' (λ index c. if k' index then c ∷ [] else []) gap text
woven-same f f' k k' gap [] adds keeps = adds gap (omega arith)
woven-same f f' k k' gap (c ∷ text) adds keeps =
    rw (adds gap (omega arith), keeps gap (omega arith), woven-same f f' k k' (gap + 1) text (λ j low. adds j (omega arith)) (λ j low. keeps j (omega arith))) refl

woven-added : (f f' : ℕ → List ℕ) (k : ℕ → Bool) (more : List ℕ) (gap : ℕ) (text : List ℕ) → f gap ≡ more ++ f' gap → ((j : ℕ) → gap + 1 ≤ j → f j ≡ f' j) →
    woven f (λ index c. if k index then c ∷ [] else []) gap text ≡ more ++ woven f' (λ index c. if k index then c ∷ [] else []) gap text
woven-added f f' k more gap [] here later = here
woven-added f f' k more gap (c ∷ text) here later =
    rw (here, woven-same f f' k k (gap + 1) text later (λ j low. refl))
    (append_assoc more (f' gap) ((if k gap then c ∷ [] else []) ++ woven f' (λ index d. if k index then d ∷ [] else []) (gap + 1) text))

appearing-before : (union : List ℕ) (before after : List Bool) (alive gap : ℕ) → gap < alive → appearing alive union before after gap ≡ []
appearing-before [] before after alive gap less = refl
appearing-before (c ∷ union) [] after alive gap less = refl
appearing-before (c ∷ union) (dead ∷ before) [] alive gap less = refl
appearing-before (c ∷ union) (true ∷ before) (true ∷ after) alive gap less = appearing-before union before after alive gap less
appearing-before (c ∷ union) (true ∷ before) (false ∷ after) alive gap less =
    let other : (alive == gap) ≡ false = grind (arith, nat_tests) in
    rw other (appearing-before union before after alive gap less)
appearing-before (c ∷ union) (false ∷ before) (dead ∷ after) alive gap less = appearing-before union before after (alive + 1) gap (omega arith)

after_items : (dead : Bool) (c : ℕ) (after : List Bool) (union : List ℕ) → items_outside (dead ∷ after) (c ∷ union) ≡ (if not dead then c ∷ [] else []) ++ items_outside after union
after_items true c after union = refl
after_items false c after union = refl

first_member : (flag : Bool) (at : ℕ) (flags : List Bool) → member_from at (flag ∷ flags) at ≡ flag
first_member flag at flags = member_from-contains (flag ∷ flags) at 0 at (omega arith)

later_member : (flag : Bool) (at j : ℕ) (flags : List Bool) → at + 1 ≤ j → member_from at (flag ∷ flags) j ≡ member_from (at + 1) flags j
later_member flag at j flags less =
    let other : (at == j) ≡ false = grind (arith, nat_tests) in
    rw other (and_none flag (member_from (at + 1) flags j))
  where
    and_none : (b rest : Bool) → ((b && false) || rest) ≡ rest
    and_none true rest = refl
    and_none false rest = refl

leads_on : (union : List ℕ) (before after : List Bool) (alive : ℕ) → length union ≡ length before → length union ≡ length after →
    woven (appearing alive union before after) (λ index c. if member_from alive (shrink (complement after) before) index then c ∷ [] else []) alive (items_outside before union) ≡
    items_outside after union
leads_on [] [] [] alive one two = refl
leads_on [] [] (b ∷ after) alive one two = absurd (omega arith)
leads_on [] (b ∷ before) after alive one two = absurd (omega arith)
leads_on (c ∷ union) [] after alive one two = absurd (omega arith)
leads_on (c ∷ union) (b ∷ before) [] alive one two = absurd (omega arith)
leads_on (c ∷ union) (true ∷ before) (true ∷ after) alive one two = leads_on union before after alive (omega arith) (omega arith)
leads_on (c ∷ union) (true ∷ before) (false ∷ after) alive one two =
    let same : (alive == alive) ≡ true = grind (arith, nat_tests) in
    woven-added (appearing alive (c ∷ union) (true ∷ before) (false ∷ after)) (appearing alive union before after) (member_from alive (shrink (complement after) before)) (c ∷ []) alive
    (items_outside before union) (rw same refl)
    (λ j low. let other : (alive == j) ≡ false = grind (arith, nat_tests) in rw other refl) ∙
    ap (λ t. c ∷ t) (leads_on union before after alive (omega arith) (omega arith))
leads_on (c ∷ union) (false ∷ before) (dead ∷ after) alive one two =
    let rest = leads_on union before after (alive + 1) (omega arith) (omega arith) in
    let flags = shrink (complement after) before in
    rw (appearing-before union before after (alive + 1) alive (omega arith), first_member (not dead) alive flags, after_items dead c after union)
    (ap (λ t. (if not dead then c ∷ [] else []) ++ t)
    (woven-same (appearing (alive + 1) union before after) (appearing (alive + 1) union before after) (member_from alive (not dead ∷ flags)) (member_from (alive + 1) flags) (alive + 1)
    (items_outside before union) (λ j low. refl) (λ j low. later_member (not dead) alive j flags low) ∙ rest))

or_false : (a : Bool) → (a || false) ≡ a
or_false true = refl
or_false false = refl

no_characters : {X : Type 0} (xs : List X) → length xs ≡ 0 → xs ≡ []
no_characters [] none = refl
no_characters (x ∷ xs) none = absurd (omega arith)

pub IsBetween-all : (union : List ℕ) (all_before all_after : List Bool) (units result : UnitDelta) (rest : List ℕ) (before after : List Bool) →
    IsReading union all_before all_after units rest before after → length union ≡ length all_before → length union ≡ length all_after → before ≡ [] →
    IsCanonical result → result.base ≡ units.base → ((index : ℕ) → unit_keeps result index ≡ unit_keeps units index) →
    ((gap : ℕ) → unit_adds result gap ≡ unit_adds units gap) → IsBetween union all_before all_after result
IsBetween-all union all_before all_after units result rest before after reading one two done canonical base kept added =
    let no_rest : rest ≡ [] = no_characters rest (omega (arith, reading.same_before, ap length done)) in
    let no_after : after ≡ [] = no_characters after (omega (arith, reading.same_after, ap length no_rest)) in
    let keeps_is : (index : ℕ) → unit_keeps result index ≡ contains (shrink (complement all_after) all_before) index =
    λ index. kept index ∙ sym (or_false (unit_keeps units index)) ∙
    ap (λ b. unit_keeps units index || member_from units.base (shrink (complement after) b) index) (sym done) ∙ reading.kept index in
    let adds_is : (gap : ℕ) → unit_adds result gap ≡ appearing 0 union all_before all_after gap =
    λ gap. added gap ∙ sym (append-nil (unit_adds units gap)) ∙
    ap (λ t. unit_adds units gap ++ appearing units.base t before after gap) (sym no_rest) ∙ reading.added gap in
    record {
      canonical = canonical;
      base = omega (arith, base, reading.base, ap (λ t. length (items_outside before t)) no_rest, none_outside before);
      kept = keeps_is;
      added = adds_is;
      leads =
          applied-same (unit_keeps result) (member_from 0 (shrink (complement all_after) all_before)) (unit_adds result) (appearing 0 union all_before all_after)
          (items_outside all_before union)
          (λ index. keeps_is index ∙ sym (member_from-contains (shrink (complement all_after) all_before) 0 index index (omega arith))) adds_is ∙
          leads_on union all_before all_after 0 one two;
    }
  where
    none_outside : (flags : List Bool) → length (items_outside {X = ℕ} flags []) ≡ 0
    none_outside [] = refl
    none_outside (true ∷ flags) = refl
    none_outside (false ∷ flags) = refl
