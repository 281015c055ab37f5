-- Lemmas on what the steps of a unit delta make of a text, and of which subsets they are.
use Rattle.std.proofs.Common.{◌≡◌, ℕ, zero, suc, true, false, Bool, not, ◌+◌, ◌≤◌, List, [], ◌∷◌, ◌++◌, length, take, drop, map, replicate, append-nil, append_assoc, length-append, length-drop, refl, ap, sym, ◌∙◌, arith}
use Rattle.std.specs.Prelude.{if◌then◌else◌}
use Rattle.std.specs.List.{range_with_len}
use Rattle.plain_edits.specs.declared.delta.UnitDelta.{UnitDelta}
use Rattle.plain_text.specs.Woven.{woven}
use Rattle.plain_edits.specs.UnitDelta.{unit_keeps, unit_adds}
use Rattle.subset_runs.specs.Subset.{items_outside, expand}
use Rattle.delta_core.specs.Units.{text_after}
use Rattle.delta_core.specs.Factor.{dropped_flags, inserted_flags, union_text, IsFactored}
use Rattle.delta_core.specs.UnitStep.{UnitStep, Kept, Dropped, New, drops}
use Rattle.delta_core.specs.Inner.{step_of, steps_from, steps_of, base_count, text_of_steps, news}

pub text_of_steps-kept : (n : ℕ) (steps : List UnitStep) (text : List ℕ) → n ≤ length text → text_of_steps (replicate n Kept ++ steps) text ≡ take n text ++ text_of_steps steps (drop n text)
text_of_steps-kept zero steps text within = refl
text_of_steps-kept (suc n) steps [] within = absurd (omega arith)
text_of_steps-kept (suc n) steps (c ∷ text) within = ap (λ t. c ∷ t) (text_of_steps-kept n steps text (omega arith))

pub text_of_steps-dropped : (n : ℕ) (steps : List UnitStep) (text : List ℕ) → n ≤ length text → text_of_steps (replicate n Dropped ++ steps) text ≡ text_of_steps steps (drop n text)
text_of_steps-dropped zero steps text within = refl
text_of_steps-dropped (suc n) steps [] within = absurd (omega arith)
text_of_steps-dropped (suc n) steps (c ∷ text) within = text_of_steps-dropped n steps text (omega arith)

pub text_of_steps-added : (more : List ℕ) (steps : List UnitStep) (text : List ℕ) → text_of_steps (map New more ++ steps) text ≡ more ++ text_of_steps steps text
text_of_steps-added [] steps text = refl
text_of_steps-added (c ∷ more) steps text = ap (λ t. c ∷ t) (text_of_steps-added more steps text)

pub base_count-kept : (n : ℕ) (steps : List UnitStep) → base_count (replicate n Kept ++ steps) ≡ n + base_count steps
base_count-kept zero steps = omega arith
base_count-kept (suc n) steps = omega (arith, base_count-kept n steps)

pub base_count-dropped : (n : ℕ) (steps : List UnitStep) → base_count (replicate n Dropped ++ steps) ≡ n + base_count steps
base_count-dropped zero steps = omega arith
base_count-dropped (suc n) steps = omega (arith, base_count-dropped n steps)

pub base_count-added : (more : List ℕ) (steps : List UnitStep) → base_count (map New more ++ steps) ≡ base_count steps
base_count-added [] steps = refl
base_count-added (c ∷ more) steps = base_count-added more steps

base_count-step : (b : Bool) (steps : List UnitStep) → base_count (step_of b ∷ steps) ≡ base_count steps + 1
base_count-step true steps = refl
base_count-step false steps = refl

base_count-news : (text : List ℕ) → base_count (map New text) ≡ 0
base_count-news [] = refl
base_count-news (c ∷ text) = base_count-news text

pub base_count-steps : (k : ℕ → Bool) (f : ℕ → List ℕ) (gap n : ℕ) → base_count (steps_from k f gap n) ≡ n
base_count-steps k f gap zero = base_count-news (f gap)
base_count-steps k f gap (suc n) =
    omega (arith, base_count-added (f gap) (step_of (k gap) ∷ steps_from k f (gap + 1) n), base_count-step (k gap) (steps_from k f (gap + 1) n), base_count-steps k f (gap + 1) n)

text_of_steps-step : (b : Bool) (steps : List UnitStep) (c : ℕ) (text : List ℕ) → text_of_steps (step_of b ∷ steps) (c ∷ text) ≡ (if b then c ∷ [] else []) ++ text_of_steps steps text
text_of_steps-step true steps c text = refl
text_of_steps-step false steps c text = refl

text_of_steps-news : (more text : List ℕ) → text_of_steps (map New more) text ≡ more
text_of_steps-news [] text = refl
text_of_steps-news (c ∷ more) text = ap (λ t. c ∷ t) (text_of_steps-news more text)

pub text_of_steps-steps : (k : ℕ → Bool) (f : ℕ → List ℕ) (gap : ℕ) (text : List ℕ) →
    text_of_steps (steps_from k f gap (length text)) text ≡ woven f (λ index c. if k index then c ∷ [] else []) gap text
text_of_steps-steps k f gap [] = text_of_steps-news (f gap) []
text_of_steps-steps k f gap (c ∷ text) =
    text_of_steps-added (f gap) (step_of (k gap) ∷ steps_from k f (gap + 1) (length text)) (c ∷ text) ∙
    ap (λ t. f gap ++ t)
    (text_of_steps-step (k gap) (steps_from k f (gap + 1) (length text)) c text ∙
    ap (λ t. (if k gap then c ∷ [] else []) ++ t) (text_of_steps-steps k f (gap + 1) text))

pub text_of_steps-text_after : (units : UnitDelta) (text : List ℕ) → units.base ≡ length text → text_of_steps (steps_of units) text ≡ text_after units text
text_of_steps-text_after units text same = rw same (text_of_steps-steps (unit_keeps units) (unit_adds units) 0 text)

-- ---- the two subsets

pub drops-added : (more : List ℕ) (steps : List UnitStep) → drops (map New more ++ steps) ≡ drops steps
drops-added [] steps = refl
drops-added (c ∷ more) steps = drops-added more steps

pub news-added : (more : List ℕ) (steps : List UnitStep) → news (map New more ++ steps) ≡ replicate (length more) true ++ news steps
news-added [] steps = refl
news-added (c ∷ more) steps = ap (λ flags. true ∷ flags) (news-added more steps)

drops-step : (b : Bool) (steps : List UnitStep) → drops (step_of b ∷ steps) ≡ not b ∷ drops steps
drops-step true steps = refl
drops-step false steps = refl

news-step : (b : Bool) (steps : List UnitStep) → news (step_of b ∷ steps) ≡ false ∷ news steps
news-step true steps = refl
news-step false steps = refl

drops-news : (more : List ℕ) → drops (map New more) ≡ []
drops-news [] = refl
drops-news (c ∷ more) = drops-news more

news-news : (more : List ℕ) → news (map New more) ≡ replicate (length more) true
news-news [] = refl
news-news (c ∷ more) = ap (λ flags. true ∷ flags) (news-news more)

drops-steps : (k : ℕ → Bool) (f : ℕ → List ℕ) (gap n : ℕ) → drops (steps_from k f gap n) ≡ map (λ index. not (k index)) (range_with_len gap n)
drops-steps k f gap zero = drops-news (f gap)
drops-steps k f gap (suc n) =
    drops-added (f gap) (step_of (k gap) ∷ steps_from k f (gap + 1) n) ∙ drops-step (k gap) (steps_from k f (gap + 1) n) ∙
    ap (λ flags. not (k gap) ∷ flags) (drops-steps k f (gap + 1) n)

news-steps : (k : ℕ → Bool) (f : ℕ → List ℕ) (gap n : ℕ) →
    news (steps_from k f gap n) ≡ woven (λ g. replicate (length (f g)) true) (λ index _. false ∷ []) gap (range_with_len gap n)
news-steps k f gap zero = news-news (f gap)
news-steps k f gap (suc n) =
    news-added (f gap) (step_of (k gap) ∷ steps_from k f (gap + 1) n) ∙
    ap (λ flags. replicate (length (f gap)) true ++ flags)
    (news-step (k gap) (steps_from k f (gap + 1) n) ∙ ap (λ flags. false ∷ flags) (news-steps k f (gap + 1) n))

pub drops-steps_of : (units : UnitDelta) → drops (steps_of units) ≡ dropped_flags units
drops-steps_of units = drops-steps (unit_keeps units) (unit_adds units) 0 units.base

pub news-steps_of : (units : UnitDelta) → news (steps_of units) ≡ inserted_flags units
news-steps_of units = news-steps (unit_keeps units) (unit_adds units) 0 units.base

pub drops-append : (xs ys : List UnitStep) → drops (xs ++ ys) ≡ drops xs ++ drops ys
drops-append [] ys = refl
drops-append (Kept ∷ xs) ys = ap (λ flags. false ∷ flags) (drops-append xs ys)
drops-append (Dropped ∷ xs) ys = ap (λ flags. true ∷ flags) (drops-append xs ys)
drops-append (New c ∷ xs) ys = drops-append xs ys

pub news-append : (xs ys : List UnitStep) → news (xs ++ ys) ≡ news xs ++ news ys
news-append [] ys = refl
news-append (Kept ∷ xs) ys = ap (λ flags. false ∷ flags) (news-append xs ys)
news-append (Dropped ∷ xs) ys = ap (λ flags. false ∷ flags) (news-append xs ys)
news-append (New c ∷ xs) ys = ap (λ flags. true ∷ flags) (news-append xs ys)

length-drops : (steps : List UnitStep) → length (drops steps) ≡ base_count steps
length-drops [] = refl
length-drops (Kept ∷ steps) = omega (arith, length-drops steps)
length-drops (Dropped ∷ steps) = omega (arith, length-drops steps)
length-drops (New c ∷ steps) = length-drops steps

length-news : (steps : List UnitStep) → length (news steps) ≡ length steps
length-news [] = refl
length-news (Kept ∷ steps) = omega (arith, length-news steps)
length-news (Dropped ∷ steps) = omega (arith, length-news steps)
length-news (New c ∷ steps) = omega (arith, length-news steps)

pub base_count-le_length : (steps : List UnitStep) → base_count steps ≤ length steps
base_count-le_length [] = omega arith
base_count-le_length (Kept ∷ steps) = omega (arith, base_count-le_length steps)
base_count-le_length (Dropped ∷ steps) = omega (arith, base_count-le_length steps)
base_count-le_length (New c ∷ steps) = omega (arith, base_count-le_length steps)

-- ---- the parts, one by one

pub drops_of_kept : (n : ℕ) → drops (replicate n Kept) ≡ replicate n false
drops_of_kept zero = refl
drops_of_kept (suc n) = ap (λ flags. false ∷ flags) (drops_of_kept n)

pub drops_of_dropped : (n : ℕ) → drops (replicate n Dropped) ≡ replicate n true
drops_of_dropped zero = refl
drops_of_dropped (suc n) = ap (λ flags. true ∷ flags) (drops_of_dropped n)

pub drops_of_added : (more : List ℕ) → drops (map New more) ≡ []
drops_of_added [] = refl
drops_of_added (c ∷ more) = drops_of_added more

pub news_of_kept : (n : ℕ) → news (replicate n Kept) ≡ replicate n false
news_of_kept zero = refl
news_of_kept (suc n) = ap (λ flags. false ∷ flags) (news_of_kept n)

pub news_of_dropped : (n : ℕ) → news (replicate n Dropped) ≡ replicate n false
news_of_dropped zero = refl
news_of_dropped (suc n) = ap (λ flags. false ∷ flags) (news_of_dropped n)

pub news_of_added : (more : List ℕ) → news (map New more) ≡ replicate (length more) true
news_of_added [] = refl
news_of_added (c ∷ more) = ap (λ flags. true ∷ flags) (news_of_added more)

pub count_of_kept : (n : ℕ) → base_count (replicate n Kept) ≡ n
count_of_kept zero = refl
count_of_kept (suc n) = omega (arith, count_of_kept n)

pub count_of_dropped : (n : ℕ) → base_count (replicate n Dropped) ≡ n
count_of_dropped zero = refl
count_of_dropped (suc n) = omega (arith, count_of_dropped n)

pub length_of_same : (n : ℕ) (step : UnitStep) → length (replicate n step) ≡ n
length_of_same zero step = refl
length_of_same (suc n) step = omega (arith, length_of_same n step)

pub length_of_added : (more : List ℕ) → length (map New more) ≡ length more
length_of_added [] = refl
length_of_added (c ∷ more) = omega (arith, length_of_added more)

-- ---- a unit delta that is taken apart, as far as it was walked

-- the subsets so far, with those of the steps that are left, are the whole ones
pub record IsSplitting (dropped inserted : List Bool) (steps all : List UnitStep) : Type 0 where
  pub drop : dropped ++ drops steps ≡ drops all
  pub new : inserted ++ news steps ≡ news all

pub IsSplitting-next : (dropped inserted : List Bool) (steps part more all : List UnitStep) (d i : List Bool) → IsSplitting dropped inserted steps all → steps ≡ part ++ more →
    d ≡ dropped ++ drops part → i ≡ inserted ++ news part → IsSplitting d i more all
IsSplitting-next dropped inserted steps part more all d i so_far next d_is i_is = record {
  drop = rw (d_is, append_assoc dropped (drops part) (drops more), ← drops-append part more, ← next) so_far.drop;
  new = rw (i_is, append_assoc inserted (news part) (news more), ← news-append part more, ← next) so_far.new;
}

pub splitting_room : (dropped inserted : List Bool) (steps part more all : List UnitStep) → IsSplitting dropped inserted steps all → steps ≡ part ++ more →
    (length dropped + base_count part ≤ base_count all) × (length inserted + length part ≤ length all)
splitting_room dropped inserted steps part more all so_far next =
    let drop_len : length dropped + (base_count part + base_count more) ≡ base_count all =
    rw (← length-drops part, ← length-drops more, ← length-drops all, ← length-append (drops part) (drops more), ← drops-append part more, ← next, ← length-append dropped (drops steps), so_far.drop) refl in
    let new_len : length inserted + (length part + length more) ≡ length all =
    rw (← length-news part, ← length-news more, ← length-news all, ← length-append (news part) (news more), ← news-append part more, ← next, ← length-append inserted (news steps), so_far.new) refl in
    (omega arith, omega arith)

-- the steps' characters with those of the text
abbrev union_of : List UnitStep → List ℕ → List ℕ
union_of [] text = []
union_of (New c ∷ steps) text = c ∷ union_of steps text
union_of (Kept ∷ steps) [] = []
union_of (Kept ∷ steps) (c ∷ text) = c ∷ union_of steps text
union_of (Dropped ∷ steps) [] = []
union_of (Dropped ∷ steps) (c ∷ text) = c ∷ union_of steps text

union_of-added : (more : List ℕ) (steps : List UnitStep) (text : List ℕ) → union_of (map New more ++ steps) text ≡ more ++ union_of steps text
union_of-added [] steps text = refl
union_of-added (c ∷ more) steps text = ap (λ t. c ∷ t) (union_of-added more steps text)

union_of-news : (more text : List ℕ) → union_of (map New more) text ≡ more
union_of-news [] text = refl
union_of-news (c ∷ more) text = ap (λ t. c ∷ t) (union_of-news more text)

union_of-step : (b : Bool) (steps : List UnitStep) (c : ℕ) (text : List ℕ) → union_of (step_of b ∷ steps) (c ∷ text) ≡ c ∷ union_of steps text
union_of-step true steps c text = refl
union_of-step false steps c text = refl

union_of-steps : (k : ℕ → Bool) (f : ℕ → List ℕ) (gap : ℕ) (text : List ℕ) → union_of (steps_from k f gap (length text)) text ≡ woven f (λ index c. c ∷ []) gap text
union_of-steps k f gap [] = union_of-news (f gap) []
union_of-steps k f gap (c ∷ text) =
    union_of-added (f gap) (step_of (k gap) ∷ steps_from k f (gap + 1) (length text)) (c ∷ text) ∙
    ap (λ t. f gap ++ t)
    (union_of-step (k gap) (steps_from k f (gap + 1) (length text)) c text ∙ ap (λ t. c ∷ t) (union_of-steps k f (gap + 1) text))

outside_news : (steps : List UnitStep) (text : List ℕ) → base_count steps ≡ length text → items_outside (news steps) (union_of steps text) ≡ text
outside_news [] [] same = refl
outside_news [] (c ∷ text) same = absurd (omega arith)
outside_news (New c ∷ steps) text same = outside_news steps text same
outside_news (Kept ∷ steps) [] same = refl
outside_news (Kept ∷ steps) (c ∷ text) same = ap (λ t. c ∷ t) (outside_news steps text (omega arith))
outside_news (Dropped ∷ steps) [] same = refl
outside_news (Dropped ∷ steps) (c ∷ text) same = ap (λ t. c ∷ t) (outside_news steps text (omega arith))

outside_dropped : (steps : List UnitStep) (text : List ℕ) → items_outside (expand (drops steps) (news steps)) (union_of steps text) ≡ text_of_steps steps text
outside_dropped [] text = refl
outside_dropped (New c ∷ steps) text = ap (λ t. c ∷ t) (outside_dropped steps text)
outside_dropped (Kept ∷ steps) [] = refl
outside_dropped (Kept ∷ steps) (c ∷ text) = ap (λ t. c ∷ t) (outside_dropped steps text)
outside_dropped (Dropped ∷ steps) [] = refl
outside_dropped (Dropped ∷ steps) (c ∷ text) = outside_dropped steps text

union_of-text : (units : UnitDelta) (text : List ℕ) → length text ≡ units.base → union_of (steps_of units) text ≡ union_text units text
union_of-text units text same = rw (← same) (union_of-steps (unit_keeps units) (unit_adds units) 0 text)

pub IsFactored-all : (units : UnitDelta) (dropped inserted : List Bool) (steps : List UnitStep) → steps ≡ [] → IsSplitting dropped inserted steps (steps_of units) → IsFactored units dropped inserted
IsFactored-all units dropped inserted steps none done =
    let drop_is : dropped ≡ drops (steps_of units) = sym (append-nil dropped) ∙ ap (λ s. dropped ++ drops s) (sym none) ∙ done.drop in
    let new_is : inserted ≡ news (steps_of units) = sym (append-nil inserted) ∙ ap (λ s. inserted ++ news s) (sym none) ∙ done.new in
    record {
      dropped_is = drop_is ∙ drops-steps_of units;
      inserted_is = new_is ∙ news-steps_of units;
      before = λ text same.
          rw (new_is, ← union_of-text units text same)
          (outside_news (steps_of units) text (base_count-steps (unit_keeps units) (unit_adds units) 0 units.base ∙ sym same));
      after = λ text same.
          rw (drop_is, new_is, ← union_of-text units text same) (outside_dropped (steps_of units) text ∙ text_of_steps-text_after units text (sym same));
    }

pub length-steps_of : (units : UnitDelta) → length (steps_of units) ≡ length (inserted_flags units)
length-steps_of units = sym (length-news (steps_of units)) ∙ ap length (news-steps_of units)

-- ---- a unit delta that is applied, as far as it was walked

pub record IsMaking (made : List ℕ) (steps : List UnitStep) (text all : List ℕ) : Type 0 where
  pub so_far : made ++ text_of_steps steps text ≡ all
  pub room : base_count steps ≡ length text

pub IsMaking-start : (units : UnitDelta) (steps : List UnitStep) (text rest : List ℕ) → units.base ≡ length text → steps ≡ steps_of units → rest ≡ text →
    IsMaking [] steps rest (text_after units text)
IsMaking-start units steps text rest same is here = record {
  so_far = rw (is, here) (text_of_steps-text_after units text same);
  room = rw (is, here) (base_count-steps (unit_keeps units) (unit_adds units) 0 units.base ∙ same);
}

pub room_kept : (made : List ℕ) (steps : List UnitStep) (text all : List ℕ) (n : ℕ) (more : List UnitStep) → IsMaking made steps text all → steps ≡ replicate n Kept ++ more → n ≤ length text
room_kept made steps text all n more making next = omega (arith, making.room, ap base_count next, base_count-kept n more)

pub room_dropped : (made : List ℕ) (steps : List UnitStep) (text all : List ℕ) (n : ℕ) (more : List UnitStep) → IsMaking made steps text all → steps ≡ replicate n Dropped ++ more → n ≤ length text
room_dropped made steps text all n more making next = omega (arith, making.room, ap base_count next, base_count-dropped n more)

pub IsMaking-kept : (made new : List ℕ) (steps : List UnitStep) (text all front back : List ℕ) (n : ℕ) (more : List UnitStep) → IsMaking made steps text all →
    steps ≡ replicate n Kept ++ more → front ≡ take n text → back ≡ drop n text → new ≡ made ++ front → IsMaking new more back all
IsMaking-kept made new steps text all front back n more making next front_is back_is new_is =
    let within = room_kept made steps text all n more making next in
    record {
      so_far = rw (new_is, append_assoc made front (text_of_steps more back), front_is, back_is, ← text_of_steps-kept n more text within, ← next) making.so_far;
      room = omega (arith, making.room, ap base_count next, base_count-kept n more, ap length back_is, length-drop n text);
    }

pub IsMaking-dropped : (made : List ℕ) (steps : List UnitStep) (text all back : List ℕ) (n : ℕ) (more : List UnitStep) → IsMaking made steps text all →
    steps ≡ replicate n Dropped ++ more → back ≡ drop n text → IsMaking made more back all
IsMaking-dropped made steps text all back n more making next back_is =
    let within = room_dropped made steps text all n more making next in
    record {
      so_far = rw (back_is, ← text_of_steps-dropped n more text within, ← next) making.so_far;
      room = omega (arith, making.room, ap base_count next, base_count-dropped n more, ap length back_is, length-drop n text);
    }

pub IsMaking-added : (made new : List ℕ) (steps : List UnitStep) (text all added : List ℕ) (more : List UnitStep) → IsMaking made steps text all →
    steps ≡ map New added ++ more → new ≡ made ++ added → IsMaking new more text all
IsMaking-added made new steps text all added more making next new_is = record {
  so_far = rw (new_is, append_assoc made added (text_of_steps more text), ← text_of_steps-added added more text, ← next) making.so_far;
  room = omega (arith, making.room, ap base_count next, base_count-added added more);
}
