-- The texts of a unit delta, joined.
use Rattle.std.proofs.Common.{◌≡◌, ◌≢◌, ℕ, zero, suc, ◌+◌, ◌<◌, ◌≤◌, inl, inr, if◌then◌else◌, List, [], ◌∷◌, ◌++◌, flat_map, append-nil, refl, ap, ap₂, sym, ◌∙◌, arith}
use Rattle.std.specs.List.{range_with_len}
use Rattle.std.proofs.lemmas.Bool.{cases_eq, eq-eqb, ne_eqb}
use Rattle.plain_edits.specs.declared.delta.Added.{Added}
use Rattle.plain_edits.specs.declared.delta.UnitDelta.{UnitDelta}
use Rattle.plain_edits.specs.Delta.{text_at_gap}
use Rattle.plain_edits.specs.UnitDelta.{AreAdds, IsUnitDelta}
use Rattle.rev_rebase.specs.Rebase.{added_text}

flat_map_same_from : (f g : ℕ → List ℕ) (from n : ℕ) → ((i : ℕ) → from ≤ i → f i ≡ g i) →
    flat_map f (range_with_len from n) ≡ flat_map g (range_with_len from n)
flat_map_same_from f g from zero same = refl
flat_map_same_from f g from (suc n) same =
    ap₂ (λ xs ys. xs ++ ys) (same from (omega arith)) (flat_map_same_from f g (from + 1) n (λ i low. same i (omega arith)))

text_at_gap-before : (base from gap : ℕ) (adds : List Added) → AreAdds base from adds → gap < from → text_at_gap adds gap ≡ []
text_at_gap-before base from gap [] are below = refl
text_at_gap-before base from gap (added ∷ adds) are below =
    ap₂ (λ b text. (if b then added.text else []) ++ text) (ne_eqb added.gap gap (λ hit. omega (arith, hit, below, are.0)))
    (text_at_gap-before base (added.gap + 1) gap adds are.3 (omega (arith, below, are.0)))

texts_joined : (base from n : ℕ) (adds : List Added) → AreAdds base from adds → from + n ≡ base + 1 →
    flat_map (text_at_gap adds) (range_with_len from n) ≡ flat_map (λ added. added.text) adds
texts_joined base from zero [] are all = refl
texts_joined base from zero (added ∷ adds) are all = absurd (omega (arith, are.0, are.1, all))
texts_joined base from (suc n) [] are all = texts_joined base (from + 1) n [] tt (omega (arith, all))
texts_joined base from (suc n) (added ∷ adds) are all =
    elim (cases_eq added.gap from) [
      | inl here ↦
          ap₂ (λ b text. ((if b then added.text else []) ++ text) ++ flat_map (text_at_gap (added ∷ adds)) (range_with_len (from + 1) n))
          (eq-eqb added.gap from here) (text_at_gap-before base (added.gap + 1) from adds are.3 (omega (arith, here))) ∙
          ap (λ text. text ++ flat_map (text_at_gap (added ∷ adds)) (range_with_len (from + 1) n)) (append-nil added.text) ∙
          ap (λ text. added.text ++ text)
          (flat_map_same_from (text_at_gap (added ∷ adds)) (text_at_gap adds) (from + 1) n
          (λ gap past. ap (λ b. (if b then added.text else []) ++ text_at_gap adds gap) (ne_eqb added.gap gap (λ hit. omega (arith, hit, here, past)))) ∙
          texts_joined base (from + 1) n adds (let next : added.gap + 1 ≡ from + 1 = omega (arith, here) in rw next at are.3) (omega (arith, all)))
      | inr other ↦
          let apart = other in
          ap (λ text. text ++ flat_map (text_at_gap (added ∷ adds)) (range_with_len (from + 1) n)) (text_at_gap-before base (from + 1) from (added ∷ adds) (later other) (omega arith)) ∙
          texts_joined base (from + 1) n (added ∷ adds) (later other) (omega (arith, all))
    ]
  where
    later : added.gap ≢ from → AreAdds base (from + 1) (added ∷ adds)
    later other = (omega (arith, other, are.0), are.1, are.2, are.3)

pub added_text-joined : (units : UnitDelta) → IsUnitDelta units → flat_map (λ added. added.text) units.added ≡ added_text units
added_text-joined units is = sym (texts_joined units.base 0 (units.base + 1) units.added is.adds (omega arith))
