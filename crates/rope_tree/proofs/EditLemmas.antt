-- A rope under a unit delta, part by part.
use Rattle.std.proofs.Common.{◌≡◌, ℕ, ◌+◌, ◌^◌, ◌<◌, ◌≤◌, List, [], ◌++◌, length, take, drop, map, replicate, refl, sym, ap, subst, ◌∙◌, arith, length-append, length-drop, take-append-drop}
use Rattle.std.proofs.Math.Seq.{drop-append-add, drop-append_seam, take-append-add, take-append_seam}
use Rattle.std.proofs.lemmas.Grind.{common_steps}
use Rattle.std.proofs.lemmas.List.{append-nil, drop-drop, take_all}
use Rattle.delta_core.specs.UnitStep.{UnitStep, Kept, Dropped, New}
use Rattle.delta_core.specs.Inner.{base_count, text_of_steps}
use Rattle.delta_core.proofs.ForCallers.{IsMaking, IsMaking-added, IsMaking-dropped, IsMaking-kept, room_dropped, room_kept}
use Rattle.plain_text.specs.Text.{byte_len}
use Rattle.rope_node.specs.Lengths.{byte_len-append}
use Rattle.rope_node.proofs.ForCallers.{length-short}
use Rattle.shared_tree.specs.Replaced.{replaced}
use Rattle.rope_tree.proofs.RopeLemmas.{replaced_bytes}

counted : (text : List ℕ) (at : ℕ) → at ≤ length text → length (take at text) ≡ at
counted text at inside = grind (arith, common_steps)

take-parted : (text : List ℕ) (at n : ℕ) → at ≤ length text → take (at + n) text ≡ take at text ++ take n (drop at text)
take-parted text at n inside =
    ap (take (at + n)) (sym (take-append-drop at text)) ∙
    subst (λ (k : ℕ). take (k + n) (take at text ++ drop at text) ≡ take at text ++ take n (drop at text)) (counted text at inside) (take-append-add (take at text) (drop at text) n)

-- a rope of which the characters up to `at` are made, and the others are still as they were, and whose bytes fit 64 bits
pub record IsUnderway (text : List ℕ) (at : ℕ) (steps : List UnitStep) (all : List ℕ) : Type 0 where
  pub making : IsMaking (take at text) steps (drop at text) all
  pub inside : at ≤ length text
  pub few : byte_len text < 2 ^ 64

pub underway-kept : (text : List ℕ) (at n : ℕ) (steps more : List UnitStep) (all : List ℕ) → IsUnderway text at steps all → steps ≡ replicate n Kept ++ more → IsUnderway text (at + n) more all
underway-kept text at n steps more all under next =
    let inside : at ≤ length text = under.inside in
    let room : n ≤ length (drop at text) = room_kept (take at text) steps (drop at text) all n more under.making next in
    record {
      making = IsMaking-kept (take at text) (take (at + n) text) steps (drop at text) all (take n (drop at text)) (drop (at + n) text) n more under.making next refl (sym (drop-drop n at text)) (take-parted text at n inside);
      inside = omega (arith, room, length-drop at text);
      few = under.few;
    }

pub underway-kept_fits : (text : List ℕ) (at n : ℕ) (steps more : List UnitStep) (all : List ℕ) → IsUnderway text at steps all → steps ≡ replicate n Kept ++ more → at + n < 2 ^ 64
underway-kept_fits text at n steps more all under next =
    let after = underway-kept text at n steps more all under next in
    let inside : at + n ≤ length text = after.inside in
    omega (arith, length-short text, under.few)

pub underway-room : (text : List ℕ) (at n : ℕ) (steps more : List UnitStep) (all : List ℕ) → IsUnderway text at steps all → steps ≡ replicate n Dropped ++ more → at + n ≤ length text
underway-room text at n steps more all under next =
    let inside : at ≤ length text = under.inside in
    let room : n ≤ length (drop at text) = room_dropped (take at text) steps (drop at text) all n more under.making next in
    omega (arith, room, length-drop at text)

pub underway-room_fits : (text : List ℕ) (at n : ℕ) (steps more : List UnitStep) (all : List ℕ) → IsUnderway text at steps all → steps ≡ replicate n Dropped ++ more → at + n < 2 ^ 64
underway-room_fits text at n steps more all under next = omega (arith, underway-room text at n steps more all under next, length-short text, under.few)

pub underway-dropped : (text made : List ℕ) (at n : ℕ) (steps more : List UnitStep) (all : List ℕ) → IsUnderway text at steps all → steps ≡ replicate n Dropped ++ more → made ≡ replaced text at (at + n) [] → IsUnderway made at more all
underway-dropped text made at n steps more all under next is =
    let inside : at ≤ length text = under.inside in
    let front : List ℕ = take at text in
    let back : List ℕ = drop (at + n) text in
    let count : length front ≡ at = counted text at inside in
    let first : take at made ≡ front = ap (take at) is ∙ subst (λ (k : ℕ). take k (front ++ back) ≡ front) count (take-append_seam front back) in
    let last : drop at made ≡ drop n (drop at text) = ap (drop at) is ∙ subst (λ (k : ℕ). drop k (front ++ back) ≡ back) count (drop-append_seam front back) ∙ sym (drop-drop n at text) in
    let after : IsMaking front more (drop at made) all = IsMaking-dropped front steps (drop at text) all (drop at made) n more under.making next last in
    record {
      making = subst (λ (xs : List ℕ). IsMaking xs more (drop at made) all) (sym first) after;
      inside = omega (arith, ap length is, length-append front back, count);
      few = omega (arith, ap byte_len is, replaced_bytes text [] at (at + n) (omega arith), under.few);
    }

pub underway-added : (text made added : List ℕ) (at : ℕ) (steps more : List UnitStep) (all : List ℕ) → IsUnderway text at steps all → steps ≡ map New added ++ more → byte_len text + byte_len added < 2 ^ 64 → made ≡ replaced text at at added → IsUnderway made (at + length added) more all
underway-added text made added at steps more all under next few is =
    let inside : at ≤ length text = under.inside in
    let front : List ℕ = take at text in
    let back : List ℕ = drop at text in
    let count : length front ≡ at = counted text at inside in
    let first : take (at + length added) made ≡ front ++ added =
    ap (take (at + length added)) is ∙ subst (λ (k : ℕ). take (k + length added) (front ++ (added ++ back)) ≡ front ++ take (length added) (added ++ back)) count (take-append-add front (added ++ back) (length added)) ∙ ap (λ xs. front ++ xs) (take-append_seam added back) in
    let last : drop (at + length added) made ≡ back =
    ap (drop (at + length added)) is ∙ subst (λ (k : ℕ). drop (k + length added) (front ++ (added ++ back)) ≡ drop (length added) (added ++ back)) count (drop-append-add front (added ++ back) (length added)) ∙ drop-append_seam added back in
    let after : IsMaking (take (at + length added) made) more back all = IsMaking-added front (take (at + length added) made) steps back all added more under.making next first in
    record {
      making = subst (λ (xs : List ℕ). IsMaking (take (at + length added) made) more xs all) (sym last) after;
      inside = omega (arith, ap length is, length-append front (added ++ back), length-append added back, count);
      few = omega (arith, ap byte_len is, replaced_bytes text added at at (omega arith), few);
    }

pub underway-added_fits : (text made added : List ℕ) (at : ℕ) (steps more : List UnitStep) (all : List ℕ) → IsUnderway text at steps all → steps ≡ map New added ++ more → byte_len text + byte_len added < 2 ^ 64 → made ≡ replaced text at at added → at + length added < 2 ^ 64
underway-added_fits text made added at steps more all under next few is =
    let after = underway-added text made added at steps more all under next few is in
    let inside : at + length added ≤ length made = after.inside in
    omega (arith, length-short made, after.few)

pub underway-start : (text all : List ℕ) (steps : List UnitStep) → IsMaking [] steps text all → byte_len text < 2 ^ 64 → IsUnderway text 0 steps all
underway-start text all steps making few = record { making = making; inside = omega arith; few = few }

-- where no step is left, the rope is made
pub underway-end : (text all : List ℕ) (at : ℕ) (steps : List UnitStep) → steps ≡ [] → IsUnderway text at steps all → text ≡ all
underway-end text all at steps none under =
    let room : length (drop at text) ≡ 0 = sym under.making.room ∙ ap base_count none in
    let inside : at ≤ length text = under.inside in
    let ended : at ≡ length text = omega (arith, length-drop at text) in
    let whole : take at text ≡ text = rw ended (take_all (length text) text (omega arith)) in
    sym whole ∙ sym (append-nil (take at text)) ∙ ap (λ s. take at text ++ text_of_steps s (drop at text)) (sym none) ∙ under.making.so_far

pub making-end : (made text all : List ℕ) (steps : List UnitStep) → steps ≡ [] → IsMaking made steps text all → made ≡ all
making-end made text all steps none making = sym (append-nil made) ∙ ap (λ s. made ++ text_of_steps s text) (sym none) ∙ making.so_far

front_bytes : (front back all : List ℕ) → front ++ back ≡ all → byte_len front ≤ byte_len all
front_bytes front back all whole = omega (arith, ap byte_len whole, byte_len-append front back)

-- what is made so far is a front of the whole
pub kept_few : (made : List ℕ) (steps : List UnitStep) (text all : List ℕ) (n : ℕ) (more : List UnitStep) → IsMaking made steps text all → steps ≡ replicate n Kept ++ more → byte_len all < 2 ^ 64 → byte_len (made ++ take n text) < 2 ^ 64
kept_few made steps text all n more making next few =
    let after = IsMaking-kept made (made ++ take n text) steps text all (take n text) (drop n text) n more making next refl refl refl in
    omega (arith, front_bytes (made ++ take n text) _ all after.so_far)

pub added_few : (made : List ℕ) (steps : List UnitStep) (text all added : List ℕ) (more : List UnitStep) → IsMaking made steps text all → steps ≡ map New added ++ more → byte_len all < 2 ^ 64 → byte_len (made ++ added) < 2 ^ 64
added_few made steps text all added more making next few =
    let after = IsMaking-added made (made ++ added) steps text all added more making next refl in
    omega (arith, front_bytes (made ++ added) _ all after.so_far)
