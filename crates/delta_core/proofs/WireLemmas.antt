-- Lemmas on the delta of the notices.
use Rattle.std.proofs.Common.{◌≡◌, ◌≢◌, ℕ, zero, suc, true, false, Bool, ◌+◌, ◌<◌, ◌≤◌, List, [], ◌∷◌, ◌++◌, length, drop, map, replicate, append-nil, append_assoc, length-drop, refl, ap, sym, ◌∙◌, arith, ⊎_elim}
use Rattle.std.specs.Prelude.{if◌then◌else◌, ◌==◌}
use Rattle.std.specs.Char.{len_utf8}
use Rattle.std.proofs.lemmas.Bool.{cases_eq}
use Rattle.std.proofs.lemmas.Bool.Decides.{nat_tests}
use Rattle.plain_edits.specs.declared.delta.El.{El}
use Rattle.plain_edits.specs.declared.delta.El.TheVariants.{Copy, Insert}
use Rattle.plain_edits.specs.declared.delta.UnitDelta.{UnitDelta}
use Rattle.plain_text.specs.Text.{byte_len, place_of}
use Rattle.plain_edits.specs.UnitDelta.{unit_keeps, unit_adds}
use Rattle.plain_text.proofs.callers.PlaceLemmas.{place_of-rises_strictly}
use Rattle.delta_core.specs.UnitStep.{UnitStep, Kept, Dropped, New}
use Rattle.delta_core.specs.Inner.{step_of, steps_from, steps_of, base_count}
use Rattle.delta_core.specs.Wire.{copy_before, text_before, wire_from}
use Rattle.delta_core.specs.Inner.{Gathered, whole}
use Rattle.delta_core.proofs.StepLemmas.{base_count-kept, base_count-dropped, base_count-added, base_count-steps}

-- ---- putting in front

tests_same : (a b : ℕ) → a ≡ b → (a == b) ≡ true
tests_same a b same = grind (arith, nat_tests)

tests_other : (a b : ℕ) → a ≢ b → (a == b) ≡ false
tests_other a b other = grind (arith, nat_tests)

pub copy_before-none : (a b : ℕ) (els : List El) → a ≡ b → copy_before a b els ≡ els
copy_before-none a b [] same = rw (tests_same a b same) refl
copy_before-none a b (Copy c d ∷ els) same = rw (tests_same a b same) refl
copy_before-none a b (Insert text ∷ els) same = rw (tests_same a b same) refl

pub copy_before-nil : (a b : ℕ) → a ≢ b → copy_before a b [] ≡ Copy a b ∷ []
copy_before-nil a b some = rw (tests_other a b some) refl

pub copy_before-touching : (a b d : ℕ) (els : List El) → a ≢ b → copy_before a b (Copy b d ∷ els) ≡ Copy a d ∷ els
copy_before-touching a b d els some = rw (tests_other a b some, tests_same b b refl) refl

pub copy_before-apart : (a b c d : ℕ) (els : List El) → a ≢ b → b ≢ c → copy_before a b (Copy c d ∷ els) ≡ Copy a b ∷ Copy c d ∷ els
copy_before-apart a b c d els some apart = rw (tests_other a b some, tests_other b c apart) refl

pub copy_before-text : (a b : ℕ) (text : List ℕ) (els : List El) → a ≢ b → copy_before a b (Insert text ∷ els) ≡ Copy a b ∷ Insert text ∷ els
copy_before-text a b text els some = rw (tests_other a b some) refl

copy_before-grown : (from to b : ℕ) (els : List El) → from ≢ to → to ≢ b → from ≢ b → copy_before from to (copy_before to b els) ≡ copy_before from b els
copy_before-grown from to b [] some other far = rw (copy_before-nil to b other, copy_before-nil from b far) (copy_before-touching from to b [] some)
copy_before-grown from to b (Insert text ∷ els) some other far =
    rw (copy_before-text to b text els other, copy_before-text from b text els far) (copy_before-touching from to b (Insert text ∷ els) some)
copy_before-grown from to b (Copy c d ∷ els) some other far =
    ⊎_elim (λ (same : b ≡ c). rw (← same) (rw (copy_before-touching to b d els other, copy_before-touching from b d els far) (copy_before-touching from to d els some)))
    (λ (apart : b ≢ c). rw (copy_before-apart to b c d els other apart, copy_before-apart from b c d els far apart) (copy_before-touching from to b (Copy c d ∷ els) some))
    (cases_eq b c)

pub copy_before-joined : (from to b : ℕ) (els : List El) → from ≤ to → to < b → copy_before from to (copy_before to b els) ≡ copy_before from b els
copy_before-joined from to b els rises less =
    ⊎_elim (λ (same : from ≡ to). copy_before-none from to (copy_before to b els) same ∙ ap (λ k. copy_before k b els) (sym same))
    (λ (some : from ≢ to). copy_before-grown from to b els some (omega arith) (omega arith)) (cases_eq from to)

pub text_before-joined : (text more : List ℕ) (els : List El) → text_before text (text_before more els) ≡ text_before (text ++ more) els
text_before-joined [] more els = refl
text_before-joined (c ∷ text) [] [] = ap (λ t. Insert t ∷ []) (sym (append-nil (c ∷ text)))
text_before-joined (c ∷ text) [] (Copy a b ∷ els) = ap (λ t. Insert t ∷ Copy a b ∷ els) (sym (append-nil (c ∷ text)))
text_before-joined (c ∷ text) [] (Insert later ∷ els) = ap (λ t. Insert (t ++ later) ∷ els) (sym (append-nil (c ∷ text)))
text_before-joined (c ∷ text) (d ∷ more) [] = refl
text_before-joined (c ∷ text) (d ∷ more) (Copy a b ∷ els) = refl
text_before-joined (c ∷ text) (d ∷ more) (Insert later ∷ els) = ap (λ t. Insert t ∷ els) (sym (append_assoc (c ∷ text) (d ∷ more) later))

-- ---- the elements of the steps

abbrev pub wire_steps : ℕ → List UnitStep → List ℕ → List El
wire_steps at [] text = []
wire_steps at (New c ∷ steps) text = text_before (c ∷ []) (wire_steps at steps text)
wire_steps at (Kept ∷ steps) [] = []
wire_steps at (Kept ∷ steps) (c ∷ text) = copy_before at (at + len_utf8 c) (wire_steps (at + len_utf8 c) steps text)
wire_steps at (Dropped ∷ steps) [] = []
wire_steps at (Dropped ∷ steps) (c ∷ text) = wire_steps (at + len_utf8 c) steps text

pub wire_steps-added : (at : ℕ) (more : List ℕ) (steps : List UnitStep) (text : List ℕ) →
    wire_steps at (map New more ++ steps) text ≡ text_before more (wire_steps at steps text)
wire_steps-added at [] steps text = refl
wire_steps-added at (c ∷ more) steps text =
    ap (λ els. text_before (c ∷ []) els) (wire_steps-added at more steps text) ∙ text_before-joined (c ∷ []) more (wire_steps at steps text)

pub wire_steps-dropped : (at end n : ℕ) (steps : List UnitStep) (text : List ℕ) → n ≤ length text → end ≡ at + place_of text n →
    wire_steps at (replicate n Dropped ++ steps) text ≡ wire_steps end steps (drop n text)
wire_steps-dropped at end zero steps text within far =
    let here : at ≡ end = omega arith in ap (λ k. wire_steps k steps text) here
wire_steps-dropped at end (suc n) steps [] within far = absurd (omega arith)
wire_steps-dropped at end (suc n) steps (c ∷ text) within far = wire_steps-dropped (at + len_utf8 c) end n steps text (omega arith) (omega arith)

pub wire_steps-kept : (at end n : ℕ) (steps : List UnitStep) (text : List ℕ) → n ≤ length text → end ≡ at + place_of text n →
    wire_steps at (replicate n Kept ++ steps) text ≡ copy_before at end (wire_steps end steps (drop n text))
wire_steps-kept at end zero steps text within far =
    let here : at ≡ end = omega arith in
    ap (λ k. wire_steps k steps text) here ∙ sym (copy_before-none at end (wire_steps end steps text) here)
wire_steps-kept at end (suc n) steps [] within far = absurd (omega arith)
wire_steps-kept at end (suc zero) steps (c ∷ text) within far = let here : at + len_utf8 c ≡ end = omega arith in rw here refl
wire_steps-kept at end (suc (suc n)) steps (c ∷ text) within far =
    let more = wire_steps-kept (at + len_utf8 c) end (suc n) steps text (omega arith) (omega arith) in
    let some = place_of-rises_strictly text 0 (suc n) (omega arith) (omega arith) in
    ap (λ els. copy_before at (at + len_utf8 c) els) more ∙
    copy_before-joined at (at + len_utf8 c) end (wire_steps end steps (drop (suc n) text)) (omega arith) (omega (arith, some))

wire_steps-news : (at : ℕ) (more text : List ℕ) → wire_steps at (map New more) text ≡ text_before more []
wire_steps-news at [] text = refl
wire_steps-news at (c ∷ more) text = ap (λ els. text_before (c ∷ []) els) (wire_steps-news at more text) ∙ text_before-joined (c ∷ []) more []

wire_steps-step : (at : ℕ) (b : Bool) (steps : List UnitStep) (c : ℕ) (text : List ℕ) →
    wire_steps at (step_of b ∷ steps) (c ∷ text) ≡
    (if b then copy_before at (at + len_utf8 c) (wire_steps (at + len_utf8 c) steps text) else wire_steps (at + len_utf8 c) steps text)
wire_steps-step at true steps c text = refl
wire_steps-step at false steps c text = refl

pub wire_steps-from : (k : ℕ → Bool) (f : ℕ → List ℕ) (gap at : ℕ) (text : List ℕ) → wire_steps at (steps_from k f gap (length text)) text ≡ wire_from k f gap at text
wire_steps-from k f gap at [] = wire_steps-news at (f gap) []
wire_steps-from k f gap at (c ∷ text) =
    let rest = wire_steps-from k f (gap + 1) (at + len_utf8 c) text in
    wire_steps-added at (f gap) (step_of (k gap) ∷ steps_from k f (gap + 1) (length text)) (c ∷ text) ∙
    ap (λ els. text_before (f gap) els)
    (wire_steps-step at (k gap) (steps_from k f (gap + 1) (length text)) c text ∙
    ap (λ els. if k gap then copy_before at (at + len_utf8 c) els else els) rest)

-- ---- the delta of the notices, as far as the unit delta was walked

pub place_split : (text : List ℕ) (n : ℕ) → place_of text n + byte_len (drop n text) ≡ byte_len text
place_split text zero = omega arith
place_split [] (suc n) = refl
place_split (c ∷ text) (suc n) = omega (arith, place_split text n)

pub record IsWiring (w : Gathered) (at : ℕ) (steps : List UnitStep) (text before : List ℕ) (all : List El) : Type 0 where
  pub so_far : whole w (wire_steps at steps text) ≡ all
  pub room : base_count steps ≡ length text
  pub reached : at + byte_len text ≡ byte_len before

pub wiring_kept : (n : ℕ) (steps more : List UnitStep) (text : List ℕ) → base_count steps ≡ length text → steps ≡ replicate n Kept ++ more → n ≤ length text
wiring_kept n steps more text room next = omega (arith, room, ap base_count next, base_count-kept n more)

pub wiring_dropped : (n : ℕ) (steps more : List UnitStep) (text : List ℕ) → base_count steps ≡ length text → steps ≡ replicate n Dropped ++ more → n ≤ length text
wiring_dropped n steps more text room next = omega (arith, room, ap base_count next, base_count-dropped n more)

pub wiring_bound : (w : Gathered) (at : ℕ) (steps : List UnitStep) (text before : List ℕ) (all : List El) (n width : ℕ) → IsWiring w at steps text before all →
    width ≡ place_of text n → at + width ≤ byte_len before
wiring_bound w at steps text before all n width wiring is = omega (arith, wiring.reached, place_split text n)

pub wiring_ahead : (n width : ℕ) (steps more : List UnitStep) (text : List ℕ) → base_count steps ≡ length text → steps ≡ replicate n Kept ++ more →
    width ≡ place_of text n → 0 < length (replicate n Kept) → 0 < width
wiring_ahead zero width steps more text room next is some = absurd (omega arith)
wiring_ahead (suc n) width steps more text room next is some =
    let within = wiring_kept (suc n) steps more text room next in
    omega (arith, place_of-rises_strictly text 0 (suc n) (omega arith) within)

pub IsWiring-kept : (w new : Gathered) (at end width n : ℕ) (steps more : List UnitStep) (text back before : List ℕ) (all : List El) → IsWiring w at steps text before all →
    steps ≡ replicate n Kept ++ more → back ≡ drop n text → width ≡ place_of text n → end ≡ at + width →
    ((ahead : List El) → whole new ahead ≡ whole w (copy_before at end ahead)) → IsWiring new end more back before all
IsWiring-kept w new at end width n steps more text back before all wiring next back_is is far put =
    let within = wiring_kept n steps more text wiring.room next in
    record {
      so_far = rw back_is (put (wire_steps end more (drop n text)) ∙
          ap (λ els. whole w els) (sym (ap (λ s. wire_steps at s text) next ∙ wire_steps-kept at end n more text within (omega arith))) ∙ wiring.so_far);
      room = omega (arith, wiring.room, ap base_count next, base_count-kept n more, ap length back_is, length-drop n text);
      reached = omega (arith, wiring.reached, place_split text n, ap byte_len back_is);
    }

pub IsWiring-dropped : (w : Gathered) (at end width n : ℕ) (steps more : List UnitStep) (text back before : List ℕ) (all : List El) → IsWiring w at steps text before all →
    steps ≡ replicate n Dropped ++ more → back ≡ drop n text → width ≡ place_of text n → end ≡ at + width → IsWiring w end more back before all
IsWiring-dropped w at end width n steps more text back before all wiring next back_is is far =
    let within = wiring_dropped n steps more text wiring.room next in
    record {
      so_far = rw back_is (ap (λ els. whole w els) (sym (ap (λ s. wire_steps at s text) next ∙ wire_steps-dropped at end n more text within (omega arith))) ∙ wiring.so_far);
      room = omega (arith, wiring.room, ap base_count next, base_count-dropped n more, ap length back_is, length-drop n text);
      reached = omega (arith, wiring.reached, place_split text n, ap byte_len back_is);
    }

pub IsWiring-added : (w new : Gathered) (at : ℕ) (steps more : List UnitStep) (added text before : List ℕ) (all : List El) → IsWiring w at steps text before all →
    steps ≡ map New added ++ more → ((ahead : List El) → whole new ahead ≡ whole w (text_before added ahead)) → IsWiring new at more text before all
IsWiring-added w new at steps more added text before all wiring next put = record {
  so_far = put (wire_steps at more text) ∙ ap (λ els. whole w els) (sym (ap (λ s. wire_steps at s text) next ∙ wire_steps-added at added more text)) ∙ wiring.so_far;
  room = omega (arith, wiring.room, ap base_count next, base_count-added added more);
  reached = wiring.reached;
}

pub IsWiring-start : (w : Gathered) (units : UnitDelta) (steps : List UnitStep) (text before : List ℕ) → units.base ≡ length before → text ≡ before → steps ≡ steps_of units →
    ((ahead : List El) → whole w ahead ≡ ahead) → IsWiring w 0 steps text before (wire_from (unit_keeps units) (unit_adds units) 0 0 before)
IsWiring-start w units steps text before same here is put = record {
  so_far = put (wire_steps 0 steps text) ∙ rw (is, here, same) (wire_steps-from (unit_keeps units) (unit_adds units) 0 0 before);
  room = rw (is, here) (base_count-steps (unit_keeps units) (unit_adds units) 0 units.base ∙ same);
  reached = omega (arith, ap byte_len here);
}
