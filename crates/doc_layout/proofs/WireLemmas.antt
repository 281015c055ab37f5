-- Lemmas on the delta of the notices, over a text that is not walked.
use Rattle.std.proofs.Common.{◌≡◌, ◌≢◌, ℕ, zero, suc, true, false, Bool, ◌+◌, ◌<◌, ◌≤◌, List, [], ◌∷◌, ◌++◌, length, take, drop, map, replicate, append-nil, append_assoc, length-drop, refl, ap, sym, ◌∙◌, arith, ⊎_elim}
use Rattle.std.specs.Prelude.{if◌then◌else◌, ◌==◌}
use Rattle.std.specs.Char.{len_utf8}
use Rattle.std.proofs.lemmas.Bool.{cases_eq}
use Rattle.std.proofs.lemmas.Bool.Decides.{nat_tests}
use Rattle.std.proofs.lemmas.List.{drop-drop}
use Rattle.std.proofs.Math.Seq.{take-add}
use Rattle.plain_edits.specs.declared.delta.El.{El}
use Rattle.plain_edits.specs.declared.delta.El.TheVariants.{Copy, Insert}
use Rattle.plain_edits.specs.declared.delta.UnitDelta.{UnitDelta}
use Rattle.plain_text.specs.Text.{byte_len, place_of}
use Rattle.rope_node.specs.Lengths.{byte_len-append}
use Rattle.plain_edits.specs.UnitDelta.{unit_keeps, unit_adds}
use Rattle.plain_text.proofs.callers.PlaceLemmas.{place_of-rises_strictly}
use Rattle.delta_core.specs.UnitStep.{UnitStep, Kept, Dropped, New}
use Rattle.delta_core.specs.Inner.{step_of, steps_from, steps_of, base_count}
use Rattle.delta_core.specs.Wire.{copy_before, text_before, wire_from}
use Rattle.delta_core.specs.Inner.{Gathered, whole}

-- ---- putting in front

tests_same : (a b : ℕ) → a ≡ b → (a == b) ≡ true
tests_same a b same = grind (arith, nat_tests)

tests_other : (a b : ℕ) → a ≢ b → (a == b) ≡ false
tests_other a b other = grind (arith, nat_tests)

copy_before-none : (a b : ℕ) (els : List El) → a ≡ b → copy_before a b els ≡ els
copy_before-none a b [] same = rw (tests_same a b same) refl
copy_before-none a b (Copy c d ∷ els) same = rw (tests_same a b same) refl
copy_before-none a b (Insert text ∷ els) same = rw (tests_same a b same) refl

copy_before-nil : (a b : ℕ) → a ≢ b → copy_before a b [] ≡ Copy a b ∷ []
copy_before-nil a b some = rw (tests_other a b some) refl

copy_before-touching : (a b d : ℕ) (els : List El) → a ≢ b → copy_before a b (Copy b d ∷ els) ≡ Copy a d ∷ els
copy_before-touching a b d els some = rw (tests_other a b some, tests_same b b refl) refl

copy_before-apart : (a b c d : ℕ) (els : List El) → a ≢ b → b ≢ c → copy_before a b (Copy c d ∷ els) ≡ Copy a b ∷ Copy c d ∷ els
copy_before-apart a b c d els some apart = rw (tests_other a b some, tests_other b c apart) refl

copy_before-text : (a b : ℕ) (text : List ℕ) (els : List El) → a ≢ b → copy_before a b (Insert text ∷ els) ≡ Copy a b ∷ Insert text ∷ els
copy_before-text a b text els some = rw (tests_other a b some) refl

copy_before-grown : (from to b : ℕ) (els : List El) → from ≢ to → to ≢ b → from ≢ b → copy_before from to (copy_before to b els) ≡ copy_before from b els
copy_before-grown from to b [] some other far = rw (copy_before-nil to b other, copy_before-nil from b far) (copy_before-touching from to b [] some)
copy_before-grown from to b (Insert text ∷ els) some other far =
    rw (copy_before-text to b text els other, copy_before-text from b text els far) (copy_before-touching from to b (Insert text ∷ els) some)
copy_before-grown from to b (Copy c d ∷ els) some other far =
    ⊎_elim (λ (same : b ≡ c). rw (← same) (rw (copy_before-touching to b d els other, copy_before-touching from b d els far) (copy_before-touching from to d els some)))
    (λ (apart : b ≢ c). rw (copy_before-apart to b c d els other apart, copy_before-apart from b c d els far apart) (copy_before-touching from to b (Copy c d ∷ els) some))
    (cases_eq b c)

copy_before-joined : (from to b : ℕ) (els : List El) → from ≤ to → to < b → copy_before from to (copy_before to b els) ≡ copy_before from b els
copy_before-joined from to b els rises less =
    ⊎_elim (λ (same : from ≡ to). copy_before-none from to (copy_before to b els) same ∙ ap (λ k. copy_before k b els) (sym same))
    (λ (some : from ≢ to). copy_before-grown from to b els some (omega arith) (omega arith)) (cases_eq from to)

text_before-joined : (text more : List ℕ) (els : List El) → text_before text (text_before more els) ≡ text_before (text ++ more) els
text_before-joined [] more els = refl
text_before-joined (c ∷ text) [] [] = ap (λ t. Insert t ∷ []) (sym (append-nil (c ∷ text)))
text_before-joined (c ∷ text) [] (Copy a b ∷ els) = ap (λ t. Insert t ∷ Copy a b ∷ els) (sym (append-nil (c ∷ text)))
text_before-joined (c ∷ text) [] (Insert later ∷ els) = ap (λ t. Insert (t ++ later) ∷ els) (sym (append-nil (c ∷ text)))
text_before-joined (c ∷ text) (d ∷ more) [] = refl
text_before-joined (c ∷ text) (d ∷ more) (Copy a b ∷ els) = refl
text_before-joined (c ∷ text) (d ∷ more) (Insert later ∷ els) = ap (λ t. Insert t ∷ els) (sym (append_assoc (c ∷ text) (d ∷ more) later))

-- ---- the elements of the steps

abbrev pub wire_steps : ℕ → List UnitStep → List ℕ → List El
wire_steps at [] text = []
wire_steps at (New c ∷ steps) text = text_before (c ∷ []) (wire_steps at steps text)
wire_steps at (Kept ∷ steps) [] = []
wire_steps at (Kept ∷ steps) (c ∷ text) = copy_before at (at + len_utf8 c) (wire_steps (at + len_utf8 c) steps text)
wire_steps at (Dropped ∷ steps) [] = []
wire_steps at (Dropped ∷ steps) (c ∷ text) = wire_steps (at + len_utf8 c) steps text

wire_steps-added : (at : ℕ) (more : List ℕ) (steps : List UnitStep) (text : List ℕ) →
    wire_steps at (map New more ++ steps) text ≡ text_before more (wire_steps at steps text)
wire_steps-added at [] steps text = refl
wire_steps-added at (c ∷ more) steps text =
    ap (λ els. text_before (c ∷ []) els) (wire_steps-added at more steps text) ∙ text_before-joined (c ∷ []) more (wire_steps at steps text)

wire_steps-dropped : (at end n : ℕ) (steps : List UnitStep) (text : List ℕ) → n ≤ length text → end ≡ at + place_of text n →
    wire_steps at (replicate n Dropped ++ steps) text ≡ wire_steps end steps (drop n text)
wire_steps-dropped at end zero steps text within far =
    let here : at ≡ end = omega arith in ap (λ k. wire_steps k steps text) here
wire_steps-dropped at end (suc n) steps [] within far = absurd (omega arith)
wire_steps-dropped at end (suc n) steps (c ∷ text) within far = wire_steps-dropped (at + len_utf8 c) end n steps text (omega arith) (omega arith)

wire_steps-kept : (at end n : ℕ) (steps : List UnitStep) (text : List ℕ) → n ≤ length text → end ≡ at + place_of text n →
    wire_steps at (replicate n Kept ++ steps) text ≡ copy_before at end (wire_steps end steps (drop n text))
wire_steps-kept at end zero steps text within far =
    let here : at ≡ end = omega arith in
    ap (λ k. wire_steps k steps text) here ∙ sym (copy_before-none at end (wire_steps end steps text) here)
wire_steps-kept at end (suc n) steps [] within far = absurd (omega arith)
wire_steps-kept at end (suc zero) steps (c ∷ text) within far = let here : at + len_utf8 c ≡ end = omega arith in rw here refl
wire_steps-kept at end (suc (suc n)) steps (c ∷ text) within far =
    let more = wire_steps-kept (at + len_utf8 c) end (suc n) steps text (omega arith) (omega arith) in
    let some = place_of-rises_strictly text 0 (suc n) (omega arith) (omega arith) in
    ap (λ els. copy_before at (at + len_utf8 c) els) more ∙
    copy_before-joined at (at + len_utf8 c) end (wire_steps end steps (drop (suc n) text)) (omega arith) (omega (arith, some))

wire_steps-news : (at : ℕ) (more text : List ℕ) → wire_steps at (map New more) text ≡ text_before more []
wire_steps-news at [] text = refl
wire_steps-news at (c ∷ more) text = ap (λ els. text_before (c ∷ []) els) (wire_steps-news at more text) ∙ text_before-joined (c ∷ []) more []

wire_steps-step : (at : ℕ) (b : Bool) (steps : List UnitStep) (c : ℕ) (text : List ℕ) →
    wire_steps at (step_of b ∷ steps) (c ∷ text) ≡
    (if b then copy_before at (at + len_utf8 c) (wire_steps (at + len_utf8 c) steps text) else wire_steps (at + len_utf8 c) steps text)
wire_steps-step at true steps c text = refl
wire_steps-step at false steps c text = refl

wire_steps-from : (k : ℕ → Bool) (f : ℕ → List ℕ) (gap at : ℕ) (text : List ℕ) → wire_steps at (steps_from k f gap (length text)) text ≡ wire_from k f gap at text
wire_steps-from k f gap at [] = wire_steps-news at (f gap) []
wire_steps-from k f gap at (c ∷ text) =
    let rest = wire_steps-from k f (gap + 1) (at + len_utf8 c) text in
    wire_steps-added at (f gap) (step_of (k gap) ∷ steps_from k f (gap + 1) (length text)) (c ∷ text) ∙
    ap (λ els. text_before (f gap) els)
    (wire_steps-step at (k gap) (steps_from k f (gap + 1) (length text)) c text ∙
    ap (λ els. if k gap then copy_before at (at + len_utf8 c) els else els) rest)

-- ---- how many characters of the base steps go over

base_count-kept : (n : ℕ) (steps : List UnitStep) → base_count (replicate n Kept ++ steps) ≡ n + base_count steps
base_count-kept zero steps = omega arith
base_count-kept (suc n) steps = omega (arith, base_count-kept n steps)

base_count-dropped : (n : ℕ) (steps : List UnitStep) → base_count (replicate n Dropped ++ steps) ≡ n + base_count steps
base_count-dropped zero steps = omega arith
base_count-dropped (suc n) steps = omega (arith, base_count-dropped n steps)

base_count-added : (more : List ℕ) (steps : List UnitStep) → base_count (map New more ++ steps) ≡ base_count steps
base_count-added [] steps = refl
base_count-added (c ∷ more) steps = base_count-added more steps

base_count-step : (b : Bool) (steps : List UnitStep) → base_count (step_of b ∷ steps) ≡ base_count steps + 1
base_count-step true steps = refl
base_count-step false steps = refl

base_count-news : (text : List ℕ) → base_count (map New text) ≡ 0
base_count-news [] = refl
base_count-news (c ∷ text) = base_count-news text

base_count-steps : (k : ℕ → Bool) (f : ℕ → List ℕ) (gap n : ℕ) → base_count (steps_from k f gap n) ≡ n
base_count-steps k f gap zero = base_count-news (f gap)
base_count-steps k f gap (suc n) =
    omega (arith, base_count-added (f gap) (step_of (k gap) ∷ steps_from k f (gap + 1) n), base_count-step (k gap) (steps_from k f (gap + 1) n), base_count-steps k f (gap + 1) n)

-- ---- the delta of the notices, as far as the unit delta was walked

place_of-plus : (m n : ℕ) (xs : List ℕ) → place_of xs (m + n) ≡ place_of xs m + place_of (drop m xs) n
place_of-plus m n xs = ap byte_len (take-add m n xs) ∙ byte_len-append (take m xs) (take n (drop m xs))

-- the walk has reached a gap of the text with its place, and these elements and those of the steps ahead are all
pub record IsWiring (w : Gathered) (gap at : ℕ) (steps : List UnitStep) (before : List ℕ) (all : List El) : Type 0 where
  pub so_far : whole w (wire_steps at steps (drop gap before)) ≡ all
  pub room : base_count steps ≡ length (drop gap before)
  pub place : at ≡ place_of before gap
  pub inside : gap ≤ length before

pub wiring_kept : (n gap : ℕ) (steps more : List UnitStep) (before : List ℕ) → base_count steps ≡ length (drop gap before) → gap ≤ length before →
    steps ≡ replicate n Kept ++ more → gap + n ≤ length before
wiring_kept n gap steps more before room inside next =
    omega (arith, room, inside, ap base_count next, base_count-kept n more, length-drop gap before)

pub wiring_dropped : (n gap : ℕ) (steps more : List UnitStep) (before : List ℕ) → base_count steps ≡ length (drop gap before) → gap ≤ length before →
    steps ≡ replicate n Dropped ++ more → gap + n ≤ length before
wiring_dropped n gap steps more before room inside next =
    omega (arith, room, inside, ap base_count next, base_count-dropped n more, length-drop gap before)

pub wiring_ahead : (n gap : ℕ) (before : List ℕ) → gap + n ≤ length before → 0 < length (replicate n Kept) → place_of before gap < place_of before (gap + n)
wiring_ahead zero gap before within some = absurd (omega arith)
wiring_ahead (suc n) gap before within some = place_of-rises_strictly before gap (gap + suc n) (omega arith) within

pub IsWiring-kept : (w new : Gathered) (gap at end n : ℕ) (steps more : List UnitStep) (before : List ℕ) (all : List El) → IsWiring w gap at steps before all →
    steps ≡ replicate n Kept ++ more → end ≡ place_of before (gap + n) →
    ((ahead : List El) → whole new ahead ≡ whole w (copy_before at end ahead)) → IsWiring new (gap + n) end more before all
IsWiring-kept w new gap at end n steps more before all wiring next far put =
    let within = wiring_kept n gap steps more before wiring.room wiring.inside next in
    let rest = drop gap before in
    let room : n ≤ length rest = omega (arith, within, length-drop gap before) in
    let step : end ≡ at + place_of rest n = omega (arith, far, wiring.place, place_of-plus gap n before) in
    let back = sym (drop-drop n gap before) in
    record {
      so_far = ap (λ text. whole new (wire_steps end more text)) back ∙ put (wire_steps end more (drop n rest)) ∙
          ap (λ els. whole w els) (sym (ap (λ s. wire_steps at s rest) next ∙ wire_steps-kept at end n more rest room step)) ∙ wiring.so_far;
      room = omega (arith, wiring.room, ap base_count next, base_count-kept n more, ap length back, length-drop n rest);
      place = far;
      inside = within;
    }

pub IsWiring-dropped : (w : Gathered) (gap at end n : ℕ) (steps more : List UnitStep) (before : List ℕ) (all : List El) → IsWiring w gap at steps before all →
    steps ≡ replicate n Dropped ++ more → end ≡ place_of before (gap + n) → IsWiring w (gap + n) end more before all
IsWiring-dropped w gap at end n steps more before all wiring next far =
    let within = wiring_dropped n gap steps more before wiring.room wiring.inside next in
    let rest = drop gap before in
    let room : n ≤ length rest = omega (arith, within, length-drop gap before) in
    let step : end ≡ at + place_of rest n = omega (arith, far, wiring.place, place_of-plus gap n before) in
    let back = sym (drop-drop n gap before) in
    record {
      so_far = ap (λ text. whole w (wire_steps end more text)) back ∙
          ap (λ els. whole w els) (sym (ap (λ s. wire_steps at s rest) next ∙ wire_steps-dropped at end n more rest room step)) ∙ wiring.so_far;
      room = omega (arith, wiring.room, ap base_count next, base_count-dropped n more, ap length back, length-drop n rest);
      place = far;
      inside = within;
    }

pub IsWiring-added : (w new : Gathered) (gap at : ℕ) (steps more : List UnitStep) (added before : List ℕ) (all : List El) → IsWiring w gap at steps before all →
    steps ≡ map New added ++ more → ((ahead : List El) → whole new ahead ≡ whole w (text_before added ahead)) → IsWiring new gap at more before all
IsWiring-added w new gap at steps more added before all wiring next put =
    let rest = drop gap before in
    record {
      so_far = put (wire_steps at more rest) ∙ ap (λ els. whole w els) (sym (ap (λ s. wire_steps at s rest) next ∙ wire_steps-added at added more rest)) ∙ wiring.so_far;
      room = omega (arith, wiring.room, ap base_count next, base_count-added added more);
      place = wiring.place;
      inside = wiring.inside;
    }

pub IsWiring-start : (w : Gathered) (units : UnitDelta) (steps : List UnitStep) (before : List ℕ) → units.base ≡ length before → steps ≡ steps_of units →
    ((ahead : List El) → whole w ahead ≡ ahead) → IsWiring w 0 0 steps before (wire_from (unit_keeps units) (unit_adds units) 0 0 before)
IsWiring-start w units steps before same is put = record {
  so_far = put (wire_steps 0 steps before) ∙ rw (is, same) (wire_steps-from (unit_keeps units) (unit_adds units) 0 0 before);
  room = ap base_count is ∙ base_count-steps (unit_keeps units) (unit_adds units) 0 units.base ∙ same;
  place = refl;
  inside = omega arith;
}

-- the end
pub wiring_end : (w : Gathered) (gap at : ℕ) (steps : List UnitStep) (before : List ℕ) (all els : List El) → IsWiring w gap at steps before all → steps ≡ [] →
    els ≡ whole w [] → els ≡ all
wiring_end w gap at steps before all els wiring none is =
    is ∙ ap (λ s. whole w (wire_steps at s (drop gap before))) (sym none) ∙ wiring.so_far
