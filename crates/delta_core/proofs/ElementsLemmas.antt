-- Lemmas on a delta on the wire as it is put together, part by part.
use Rattle.std.proofs.Common.{◌≡◌, ℕ, zero, suc, true, false, Bool, ◌+◌, ◌<◌, ◌≤◌, List, [], ◌∷◌, ◌++◌, length, drop, map, replicate, append-nil, append_assoc, refl, ap, sym, ◌∙◌, arith, length-drop}
use Rattle.std.specs.Prelude.{if◌then◌else◌}
use Rattle.std.specs.Char.{len_utf8}
use Rattle.plain_edits.specs.declared.delta.El.{El}
use Rattle.plain_edits.specs.declared.delta.UnitDelta.{UnitDelta}
use Rattle.plain_text.specs.Text.{byte_len, place_of}
use Rattle.plain_edits.specs.UnitDelta.{unit_keeps, unit_adds}
use Rattle.plain_text.proofs.callers.PlaceLemmas.{place_of-rises_strictly}
use Rattle.delta_core.specs.UnitStep.{UnitStep, Kept, Dropped, New}
use Rattle.delta_core.specs.Inner.{Gathered, base_count, step_of, steps_from, steps_of, with_copy}
use Rattle.delta_core.specs.Wire.{copy_before}
use Rattle.delta_core.specs.Elements.{elements_from, fixed_before}
use Rattle.delta_core.proofs.StepLemmas.{base_count-kept, base_count-dropped, base_count-added, base_count-steps, length_of_same}
use Rattle.delta_core.proofs.WireLemmas.{copy_before-joined, place_split, wiring_kept, wiring_dropped}

-- ---- the elements of the steps

-- the elements from a place on, where this text was added at its gap already
abbrev pub element_steps : List ℕ → ℕ → List UnitStep → List ℕ → List El
element_steps more at [] text = fixed_before at more []
element_steps more at (New c ∷ steps) text = element_steps (more ++ c ∷ []) at steps text
element_steps more at (Kept ∷ steps) [] = fixed_before at more []
element_steps more at (Kept ∷ steps) (c ∷ text) =
    fixed_before at more (copy_before at (at + len_utf8 c) (element_steps [] (at + len_utf8 c) steps text))
element_steps more at (Dropped ∷ steps) [] = fixed_before at more []
element_steps more at (Dropped ∷ steps) (c ∷ text) = fixed_before at more (element_steps [] (at + len_utf8 c) steps text)

pub element_steps-added : (more added : List ℕ) (at : ℕ) (steps : List UnitStep) (text : List ℕ) →
    element_steps more at (map New added ++ steps) text ≡ element_steps (more ++ added) at steps text
element_steps-added more [] at steps text = ap (λ t. element_steps t at steps text) (sym (append-nil more))
element_steps-added more (c ∷ added) at steps text =
    element_steps-added (more ++ c ∷ []) added at steps text ∙ ap (λ t. element_steps t at steps text) (append_assoc more (c ∷ []) added)

later_dropped : (at end n : ℕ) (steps : List UnitStep) (text : List ℕ) → n ≤ length text → end ≡ at + place_of text n →
    element_steps [] at (replicate n Dropped ++ steps) text ≡ element_steps [] end steps (drop n text)
later_dropped at end zero steps text within far =
    let here : at ≡ end = omega arith in ap (λ k. element_steps [] k steps text) here
later_dropped at end (suc n) steps [] within far = absurd (omega arith)
later_dropped at end (suc n) steps (c ∷ text) within far = later_dropped (at + len_utf8 c) end n steps text (omega arith) (omega arith)

pub element_steps-dropped : (more : List ℕ) (at end n : ℕ) (steps : List UnitStep) (text : List ℕ) → 0 < n → n ≤ length text →
    end ≡ at + place_of text n →
    element_steps more at (replicate n Dropped ++ steps) text ≡ fixed_before at more (element_steps [] end steps (drop n text))
element_steps-dropped more at end zero steps text some within far = absurd (omega arith)
element_steps-dropped more at end (suc n) steps [] some within far = absurd (omega arith)
element_steps-dropped more at end (suc n) steps (c ∷ text) some within far =
    ap (λ els. fixed_before at more els) (later_dropped (at + len_utf8 c) end n steps text (omega arith) (omega arith))

pub element_steps-kept : (more : List ℕ) (at end n : ℕ) (steps : List UnitStep) (text : List ℕ) → 0 < n → n ≤ length text →
    end ≡ at + place_of text n →
    element_steps more at (replicate n Kept ++ steps) text ≡ fixed_before at more (copy_before at end (element_steps [] end steps (drop n text)))
element_steps-kept more at end zero steps text some within far = absurd (omega arith)
element_steps-kept more at end (suc n) steps [] some within far = absurd (omega arith)
element_steps-kept more at end (suc zero) steps (c ∷ text) some within far = let here : at + len_utf8 c ≡ end = omega arith in rw here refl
element_steps-kept more at end (suc (suc n)) steps (c ∷ text) some within far =
    let rest = element_steps-kept [] (at + len_utf8 c) end (suc n) steps text (omega arith) (omega arith) (omega arith) in
    let rises = place_of-rises_strictly text 0 (suc n) (omega arith) (omega arith) in
    ap (λ els. fixed_before at more els)
    (ap (λ els. copy_before at (at + len_utf8 c) els) rest ∙
    copy_before-joined at (at + len_utf8 c) end (element_steps [] end steps (drop (suc n) text)) (omega arith) (omega (arith, rises)))

element_steps-news : (more : List ℕ) (at : ℕ) (text : List ℕ) → element_steps [] at (map New more) text ≡ fixed_before at more []
element_steps-news more at text = ap (λ steps. element_steps [] at steps text) (sym (append-nil (map New more))) ∙ element_steps-added [] more at [] text

element_steps-step : (more : List ℕ) (at : ℕ) (b : Bool) (steps : List UnitStep) (c : ℕ) (text : List ℕ) →
    element_steps more at (step_of b ∷ steps) (c ∷ text) ≡
    fixed_before at more
    (if b then copy_before at (at + len_utf8 c) (element_steps [] (at + len_utf8 c) steps text) else element_steps [] (at + len_utf8 c) steps text)
element_steps-step more at true steps c text = refl
element_steps-step more at false steps c text = refl

pub element_steps-from : (k : ℕ → Bool) (f : ℕ → List ℕ) (gap at : ℕ) (text : List ℕ) →
    element_steps [] at (steps_from k f gap (length text)) text ≡ elements_from k f gap at text
element_steps-from k f gap at [] = element_steps-news (f gap) at []
element_steps-from k f gap at (c ∷ text) =
    let rest = element_steps-from k f (gap + 1) (at + len_utf8 c) text in
    element_steps-added [] (f gap) at (step_of (k gap) ∷ steps_from k f (gap + 1) (length text)) (c ∷ text) ∙
    (element_steps-step (f gap) at (k gap) (steps_from k f (gap + 1) (length text)) c text ∙
    ap (λ els. fixed_before at (f gap) (if k gap then copy_before at (at + len_utf8 c) els else els)) rest)

-- ---- the delta, as far as the unit delta was walked

pub record IsPutting (w : Gathered) (at : ℕ) (steps : List UnitStep) (text before : List ℕ) (all : List El) : Type 0 where
  pub so_far : with_copy w (element_steps w.text at steps text) ≡ all
  pub room : base_count steps ≡ length text
  pub reached : at + byte_len text ≡ byte_len before

pub putting_bound : (w : Gathered) (at : ℕ) (steps : List UnitStep) (text before : List ℕ) (all : List El) (n width : ℕ) → IsPutting w at steps text before all →
    width ≡ place_of text n → at + width ≤ byte_len before
putting_bound w at steps text before all n width putting is = omega (arith, putting.reached, place_split text n)

pub IsPutting-kept : (w new : Gathered) (at end width n : ℕ) (steps more : List UnitStep) (text back before : List ℕ) (all : List El) → IsPutting w at steps text before all →
    0 < length (replicate n Kept) → steps ≡ replicate n Kept ++ more → back ≡ drop n text → width ≡ place_of text n → end ≡ at + width →
    ((ahead : List El) → with_copy new ahead ≡ with_copy w (fixed_before at w.text (copy_before at end ahead))) → new.text ≡ [] →
    IsPutting new end more back before all
IsPutting-kept w new at end width n steps more text back before all putting some next back_is is far put none =
    let within = wiring_kept n steps more text putting.room next in
    record {
      so_far = rw (none, back_is) (put (element_steps [] end more (drop n text)) ∙
          ap (λ els. with_copy w els) (sym (ap (λ s. element_steps w.text at s text) next ∙ element_steps-kept w.text at end n more text (omega (arith, some, length_of_same n Kept)) within (omega arith))) ∙
          putting.so_far);
      room = omega (arith, putting.room, ap base_count next, base_count-kept n more, ap length back_is, length-drop n text);
      reached = omega (arith, putting.reached, place_split text n, ap byte_len back_is);
    }

pub IsPutting-dropped : (w new : Gathered) (at end width n : ℕ) (steps more : List UnitStep) (text back before : List ℕ) (all : List El) → IsPutting w at steps text before all →
    0 < length (replicate n Dropped) → steps ≡ replicate n Dropped ++ more → back ≡ drop n text → width ≡ place_of text n → end ≡ at + width →
    ((ahead : List El) → with_copy new ahead ≡ with_copy w (fixed_before at w.text ahead)) → new.text ≡ [] → IsPutting new end more back before all
IsPutting-dropped w new at end width n steps more text back before all putting some next back_is is far put none =
    let within = wiring_dropped n steps more text putting.room next in
    record {
      so_far = rw (none, back_is) (put (element_steps [] end more (drop n text)) ∙
          ap (λ els. with_copy w els) (sym (ap (λ s. element_steps w.text at s text) next ∙ element_steps-dropped w.text at end n more text (omega (arith, some, length_of_same n Dropped)) within (omega arith))) ∙
          putting.so_far);
      room = omega (arith, putting.room, ap base_count next, base_count-dropped n more, ap length back_is, length-drop n text);
      reached = omega (arith, putting.reached, place_split text n, ap byte_len back_is);
    }

pub IsPutting-added : (w new : Gathered) (at : ℕ) (steps more : List UnitStep) (added text before : List ℕ) (all : List El) → IsPutting w at steps text before all →
    steps ≡ map New added ++ more → ((ahead : List El) → with_copy new ahead ≡ with_copy w ahead) → new.text ≡ w.text ++ added →
    IsPutting new at more text before all
IsPutting-added w new at steps more added text before all putting next put text_is = record {
  so_far = rw text_is (put (element_steps (w.text ++ added) at more text) ∙
      ap (λ els. with_copy w els) (sym (ap (λ s. element_steps w.text at s text) next ∙ element_steps-added w.text added at more text)) ∙ putting.so_far);
  room = omega (arith, putting.room, ap base_count next, base_count-added added more);
  reached = putting.reached;
}

pub IsPutting-start : (w : Gathered) (units : UnitDelta) (steps : List UnitStep) (text before : List ℕ) → units.base ≡ length before → text ≡ before → steps ≡ steps_of units →
    ((ahead : List El) → with_copy w ahead ≡ ahead) → w.text ≡ [] → IsPutting w 0 steps text before (elements_from (unit_keeps units) (unit_adds units) 0 0 before)
IsPutting-start w units steps text before same here is put none = record {
  so_far = put (element_steps w.text 0 steps text) ∙ rw (none, is, here, same) (element_steps-from (unit_keeps units) (unit_adds units) 0 0 before);
  room = rw (is, here) (base_count-steps (unit_keeps units) (unit_adds units) 0 units.base ∙ same);
  reached = omega (arith, ap byte_len here);
}
