-- Lemmas on what an edit makes of a layer.
use Rattle.std.proofs.Common.{◌≡◌, ℕ, zero, suc, ◌+◌, ◌^◌, ◌<◌, ◌≤◌, Bool, true, false, if◌then◌else◌, List, [], ◌∷◌, ◌++◌, length, map, take, drop, replicate, Option, None, refl, ap, ap₂, sym, ◌∙◌, arith, append_assoc, append-nil, length-append, length-drop}
use Rattle.std.specs.List.{AllByRecursion}
use Rattle.std.proofs.lemmas.List.{length-map, length-replicate}
use Rattle.plain_text.specs.Woven.{woven}
use Rattle.plain_text.proofs.callers.ListLemmas.{AllByRecursion-woven, AllByRecursion-map}
use Rattle.plain_edits.specs.declared.delta.UnitDelta.{UnitDelta}
use Rattle.plain_edits.specs.UnitDelta.{unit_keeps, unit_adds}
use Rattle.plain_edits.specs.Styles.{Layer, mapped_layer}
use Rattle.delta_core.specs.UnitStep.{UnitStep, Kept, Dropped, New, step_of, steps_from, steps_of}
use Rattle.delta_core.specs.Inner.{base_count}
use Rattle.span_styles.specs.Layers.{unstyled, length_after}
use Rattle.span_styles.specs.Inner.{layer_of_steps, shown_count}

-- ---- the steps of an edit make what the edit makes

layer_of_steps-added : (more : List ℕ) (steps : List UnitStep) (layer : Layer) → layer_of_steps (map New more ++ steps) layer ≡ map (λ c. None) more ++ layer_of_steps steps layer
layer_of_steps-added [] steps layer = refl
layer_of_steps-added (c ∷ more) steps layer = ap (λ ss. None ∷ ss) (layer_of_steps-added more steps layer)

layer_of_steps-news : (more : List ℕ) (layer : Layer) → layer_of_steps (map New more) layer ≡ map (λ c. None) more
layer_of_steps-news [] layer = refl
layer_of_steps-news (c ∷ more) layer = ap (λ ss. None ∷ ss) (layer_of_steps-news more layer)

layer_of_steps-step : (b : Bool) (steps : List UnitStep) (style : Option ℕ) (layer : Layer) →
    layer_of_steps (step_of b ∷ steps) (style ∷ layer) ≡ (if b then style ∷ [] else []) ++ layer_of_steps steps layer
layer_of_steps-step true steps style layer = refl
layer_of_steps-step false steps style layer = refl

layer_of_steps-steps : (k : ℕ → Bool) (f : ℕ → List ℕ) (gap : ℕ) (layer : Layer) →
    layer_of_steps (steps_from k f gap (length layer)) layer ≡ woven (λ g. map (λ c. None) (f g)) (λ index style. if k index then style ∷ [] else []) gap layer
layer_of_steps-steps k f gap [] = layer_of_steps-news (f gap) []
layer_of_steps-steps k f gap (style ∷ layer) =
    layer_of_steps-added (f gap) (step_of (k gap) ∷ steps_from k f (gap + 1) (length layer)) (style ∷ layer) ∙
    ap (λ ss. map (λ c. None) (f gap) ++ ss)
    (layer_of_steps-step (k gap) (steps_from k f (gap + 1) (length layer)) style layer ∙
    ap (λ ss. (if k gap then style ∷ [] else []) ++ ss) (layer_of_steps-steps k f (gap + 1) layer))

base_count-added : (more : List ℕ) (steps : List UnitStep) → base_count (map New more ++ steps) ≡ base_count steps
base_count-added [] steps = refl
base_count-added (c ∷ more) steps = base_count-added more steps

base_count-news : (more : List ℕ) → base_count (map New more) ≡ 0
base_count-news [] = refl
base_count-news (c ∷ more) = base_count-news more

base_count-step : (b : Bool) (steps : List UnitStep) → base_count (step_of b ∷ steps) ≡ base_count steps + 1
base_count-step true steps = refl
base_count-step false steps = refl

base_count-steps : (k : ℕ → Bool) (f : ℕ → List ℕ) (gap n : ℕ) → base_count (steps_from k f gap n) ≡ n
base_count-steps k f gap zero = base_count-news (f gap)
base_count-steps k f gap (suc n) =
    omega (arith, base_count-added (f gap) (step_of (k gap) ∷ steps_from k f (gap + 1) n), base_count-step (k gap) (steps_from k f (gap + 1) n), base_count-steps k f (gap + 1) n)

base_count-kept : (n : ℕ) (steps : List UnitStep) → base_count (replicate n Kept ++ steps) ≡ n + base_count steps
base_count-kept zero steps = omega arith
base_count-kept (suc n) steps = omega (arith, base_count-kept n steps)

base_count-dropped : (n : ℕ) (steps : List UnitStep) → base_count (replicate n Dropped ++ steps) ≡ n + base_count steps
base_count-dropped zero steps = omega arith
base_count-dropped (suc n) steps = omega (arith, base_count-dropped n steps)

layer_of_steps-kept : (n : ℕ) (steps : List UnitStep) (layer : Layer) → n ≤ length layer →
    layer_of_steps (replicate n Kept ++ steps) layer ≡ take n layer ++ layer_of_steps steps (drop n layer)
layer_of_steps-kept zero steps layer within = refl
layer_of_steps-kept (suc n) steps [] within = absurd (omega arith)
layer_of_steps-kept (suc n) steps (style ∷ layer) within = ap (λ ss. style ∷ ss) (layer_of_steps-kept n steps layer (omega arith))

layer_of_steps-dropped : (n : ℕ) (steps : List UnitStep) (layer : Layer) → n ≤ length layer →
    layer_of_steps (replicate n Dropped ++ steps) layer ≡ layer_of_steps steps (drop n layer)
layer_of_steps-dropped zero steps layer within = refl
layer_of_steps-dropped (suc n) steps [] within = absurd (omega arith)
layer_of_steps-dropped (suc n) steps (style ∷ layer) within = layer_of_steps-dropped n steps layer (omega arith)

-- ---- how long the layer is then

length-mapped : (k : ℕ → Bool) (f : ℕ → List ℕ) (gap : ℕ) (layer other : Layer) → length layer ≡ length other →
    length (woven {Y = Option ℕ} (λ g. map (λ c. None) (f g)) (λ index style. if k index then style ∷ [] else []) gap layer) ≡
    length (woven {Y = Option ℕ} (λ g. map (λ c. None) (f g)) (λ index style. if k index then style ∷ [] else []) gap other)
length-mapped k f gap [] [] same = refl
length-mapped k f gap [] (other ∷ others) same = absurd (omega arith)
length-mapped k f gap (style ∷ layer) [] same = absurd (omega arith)
length-mapped k f gap (style ∷ layer) (other ∷ others) same =
    length-append (map (λ c. None) (f gap)) _ ∙
    ap (λ n. length (map {B = Option ℕ} (λ c. None) (f gap)) + n)
    (length-append (if k gap then style ∷ [] else []) _ ∙
    ap₂ (λ n m. n + m) (one (k gap)) (length-mapped k f (gap + 1) layer others (omega arith)) ∙
    sym (length-append (if k gap then other ∷ [] else []) _)) ∙
    sym (length-append (map (λ c. None) (f gap)) _)
  where
    one : (b : Bool) → length (if b then style ∷ [] else []) ≡ length (if b then other ∷ [] else [])
    one true = refl
    one false = refl

pub length-mapped_layer : (units : UnitDelta) (layer : Layer) → length layer ≡ units.base →
    length (mapped_layer (unit_keeps units) (unit_adds units) layer) ≡ length_after units
length-mapped_layer units layer over =
    length-mapped (unit_keeps units) (unit_adds units) 0 layer (unstyled units.base) (over ∙ sym (length-replicate units.base None))

-- ---- a layer without styles stays so

none_styled : (layer : Layer) → AllByRecursion (λ style. style ≡ None) layer → layer ≡ replicate (length layer) None
none_styled [] each = refl
none_styled (style ∷ layer) each = ap₂ (λ s ss. s ∷ ss) each.0 (none_styled layer each.1)

all_none : (n : ℕ) → AllByRecursion (λ style. style ≡ None) (unstyled n)
all_none zero = tt
all_none (suc n) = (refl, all_none n)

pub mapped-unstyled : (units : UnitDelta) (len : ℕ) → len ≡ units.base → unstyled (length_after units) ≡ mapped_layer (unit_keeps units) (unit_adds units) (unstyled len)
mapped-unstyled units len over =
    ap (λ n. replicate n None) (sym (length-mapped_layer units (unstyled len) (length-replicate len None ∙ over))) ∙
    sym (none_styled (mapped_layer (unit_keeps units) (unit_adds units) (unstyled len))
    (AllByRecursion-woven (λ style. style ≡ None) (λ style. style ≡ None) _ _
    (λ gap. AllByRecursion-map (λ style. style ≡ None) (λ c. None) (λ c. refl) (unit_adds units gap))
    (λ index style is. kept (unit_keeps units index) style is) 0 (unstyled len) (all_none len)))
  where
    kept : (b : Bool) (style : Option ℕ) → style ≡ None → AllByRecursion (λ s. s ≡ None) (if b then style ∷ [] else [])
    kept true style is = (is, tt)
    kept false style is = tt

-- ---- the walk over an edit

-- what is made with what the steps that are left make of the characters that are ahead
pub record IsMapping (made : Layer) (steps : List UnitStep) (rest all : Layer) : Type 0 where
  pub so_far : made ++ layer_of_steps steps rest ≡ all
  pub over : base_count steps ≡ length rest
  pub bound : length all < 2 ^ 64

pub IsMapping-start : (units : UnitDelta) (steps : List UnitStep) (layer rest : Layer) → length layer ≡ units.base → length_after units < 2 ^ 64 → steps ≡ steps_of units → rest ≡ layer →
    IsMapping [] steps rest (mapped_layer (unit_keeps units) (unit_adds units) layer)
IsMapping-start units steps layer rest over bound steps_is rest_is = record {
  so_far =
      rw (steps_is, rest_is)
      (ap (λ n. layer_of_steps (steps_from (unit_keeps units) (unit_adds units) 0 n) layer) (sym over) ∙ layer_of_steps-steps (unit_keeps units) (unit_adds units) 0 layer);
  over = rw (steps_is, rest_is) (base_count-steps (unit_keeps units) (unit_adds units) 0 units.base ∙ sym over);
  bound = omega (arith, bound, length-mapped_layer units layer over);
}

pub kept_within : (made : Layer) (steps more : List UnitStep) (rest all : Layer) (n : ℕ) → IsMapping made steps rest all → steps ≡ replicate n Kept ++ more →
    (n ≤ length rest) × (length made + n < 2 ^ 64)
kept_within made steps more rest all n going next =
    let within : n ≤ length rest = omega (arith, going.over, ap base_count next, base_count-kept n more) in
    let parts : length (layer_of_steps steps rest) ≡ length (take n rest) + length (layer_of_steps more (drop n rest)) =
    ap (λ s. length (layer_of_steps s rest)) next ∙ ap length (layer_of_steps-kept n more rest within) ∙ length-append (take n rest) _ in
    (within, omega (arith, within, going.bound, ap length going.so_far, length-append made (layer_of_steps steps rest), parts, length-take-within n rest within))
  where
    length-take-within : (n : ℕ) (xs : Layer) → n ≤ length xs → length (take n xs) ≡ n
    length-take-within zero xs within = refl
    length-take-within (suc n) [] within = absurd (omega arith)
    length-take-within (suc n) (x ∷ xs) within = let rest = length-take-within n xs (omega arith) in omega arith

pub dropped_within : (made : Layer) (steps more : List UnitStep) (rest all : Layer) (n : ℕ) → IsMapping made steps rest all → steps ≡ replicate n Dropped ++ more → n ≤ length rest
dropped_within made steps more rest all n going next = omega (arith, going.over, ap base_count next, base_count-dropped n more)

pub added_room : (made : Layer) (steps more : List UnitStep) (rest all : Layer) (text : List ℕ) → IsMapping made steps rest all → steps ≡ map New text ++ more → length made + length text < 2 ^ 64
added_room made steps more rest all text going next =
    let parts : length (layer_of_steps steps rest) ≡ length (map {B = Option ℕ} (λ c. None) text) + length (layer_of_steps more rest) =
    ap (λ s. length (layer_of_steps s rest)) next ∙ ap length (layer_of_steps-added text more rest) ∙ length-append (map (λ c. None) text) _ in
    omega (arith, going.bound, ap length going.so_far, length-append made (layer_of_steps steps rest), parts, length-map {B = Option ℕ} text (λ c. None))

pub IsMapping-kept : (made made' : Layer) (steps more : List UnitStep) (rest rest' all : Layer) (n : ℕ) → IsMapping made steps rest all → steps ≡ replicate n Kept ++ more →
    made' ≡ made ++ take n rest → rest' ≡ drop n rest → IsMapping made' more rest' all
IsMapping-kept made made' steps more rest rest' all n going next made_is rest_is =
    let within = (kept_within made steps more rest all n going next).0 in
    record {
      so_far =
          rw (made_is, rest_is)
          (append_assoc made (take n rest) (layer_of_steps more (drop n rest)) ∙
          ap (λ ss. made ++ ss) (sym (layer_of_steps-kept n more rest within) ∙ ap (λ s. layer_of_steps s rest) (sym next)) ∙ going.so_far);
      over = rw rest_is (omega (arith, going.over, ap base_count next, base_count-kept n more, length-drop n rest));
      bound = going.bound;
    }

pub IsMapping-dropped : (made : Layer) (steps more : List UnitStep) (rest rest' all : Layer) (n : ℕ) → IsMapping made steps rest all → steps ≡ replicate n Dropped ++ more →
    rest' ≡ drop n rest → IsMapping made more rest' all
IsMapping-dropped made steps more rest rest' all n going next rest_is =
    let within = dropped_within made steps more rest all n going next in
    record {
      so_far =
          rw rest_is (ap (λ ss. made ++ ss) (sym (layer_of_steps-dropped n more rest within) ∙ ap (λ s. layer_of_steps s rest) (sym next)) ∙ going.so_far);
      over = rw rest_is (omega (arith, going.over, ap base_count next, base_count-dropped n more, length-drop n rest));
      bound = going.bound;
    }

replicate-map : (text : List ℕ) → replicate (length text) None ≡ map {B = Option ℕ} (λ c. None) text
replicate-map [] = refl
replicate-map (c ∷ text) = ap (λ ss. None ∷ ss) (replicate-map text)

pub IsMapping-added : (made made' : Layer) (steps more : List UnitStep) (rest all : Layer) (text : List ℕ) → IsMapping made steps rest all → steps ≡ map New text ++ more →
    made' ≡ made ++ replicate (length text) None → IsMapping made' more rest all
IsMapping-added made made' steps more rest all text going next made_is = record {
  so_far =
      rw made_is
      (append_assoc made (replicate (length text) None) (layer_of_steps more rest) ∙
      ap (λ ss. made ++ ss) (ap (λ ss. ss ++ layer_of_steps more rest) (replicate-map text) ∙ sym (layer_of_steps-added text more rest) ∙ ap (λ s. layer_of_steps s rest) (sym next)) ∙
      going.so_far);
  over = omega (arith, going.over, ap base_count next, base_count-added text more);
  bound = going.bound;
}

pub IsMapping-done : (made : Layer) (steps : List UnitStep) (rest all : Layer) → IsMapping made steps rest all → steps ≡ [] → made ≡ all
IsMapping-done made steps rest all going none = sym (append-nil made) ∙ ap (λ s. made ++ layer_of_steps s rest) (sym none) ∙ going.so_far

-- ---- the length alone

length-layer_of_steps : (steps : List UnitStep) (layer : Layer) → base_count steps ≡ length layer → length (layer_of_steps steps layer) ≡ shown_count steps
length-layer_of_steps [] layer over = refl
length-layer_of_steps (New c ∷ steps) layer over = let rest = length-layer_of_steps steps layer over in omega arith
length-layer_of_steps (Kept ∷ steps) [] over = absurd (omega arith)
length-layer_of_steps (Kept ∷ steps) (style ∷ layer) over = let rest = length-layer_of_steps steps layer (omega arith) in omega arith
length-layer_of_steps (Dropped ∷ steps) [] over = absurd (omega arith)
length-layer_of_steps (Dropped ∷ steps) (style ∷ layer) over = length-layer_of_steps steps layer (omega arith)

pub shown_count-steps_of : (units : UnitDelta) → shown_count (steps_of units) ≡ length_after units
shown_count-steps_of units =
    sym (length-layer_of_steps (steps_of units) (unstyled units.base) (base_count-steps (unit_keeps units) (unit_adds units) 0 units.base ∙ sym (length-replicate units.base None))) ∙
    (let len : units.base ≡ length (unstyled units.base) = sym (length-replicate units.base None) in
    ap (λ n. length (layer_of_steps (steps_from (unit_keeps units) (unit_adds units) 0 n) (unstyled units.base))) len) ∙
    ap length (layer_of_steps-steps (unit_keeps units) (unit_adds units) 0 (unstyled units.base))

pub shown_count-kept : (n : ℕ) (steps : List UnitStep) → shown_count (replicate n Kept ++ steps) ≡ n + shown_count steps
shown_count-kept zero steps = omega arith
shown_count-kept (suc n) steps = omega (arith, shown_count-kept n steps)

pub shown_count-dropped : (n : ℕ) (steps : List UnitStep) → shown_count (replicate n Dropped ++ steps) ≡ shown_count steps
shown_count-dropped zero steps = refl
shown_count-dropped (suc n) steps = shown_count-dropped n steps

pub shown_count-added : (text : List ℕ) (steps : List UnitStep) → shown_count (map New text ++ steps) ≡ length text + shown_count steps
shown_count-added [] steps = omega arith
shown_count-added (c ∷ text) steps = omega (arith, shown_count-added text steps)
