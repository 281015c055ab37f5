-- Lemmas on a plan with one step more.
use Rattle.std.proofs.Common.{◌≡◌, ℕ, ◌+◌, ◌<◌, ◌==◌, Bool, true, false, List, [], ◌∷◌, ◌++◌, map, Some, None, refl, sym, ap, subst, ◌∙◌, arith, append_assoc, append-nil}
use Rattle.std.specs.Prelude.{Option, Result, Ok, Err, OnOk}
use Rattle.std.specs.List.{range_with_len}
use Rattle.std.proofs.lemmas.Bool.{eqb-true}
use Rattle.std.proofs.lemmas.Grind.{flat_map-append}
use Rattle.std.proofs.lemmas.List.{map-append, replicate-append-replicate}
use Rattle.std.proofs.lemmas.List.Sums.{sum_by-append}
use Rattle.plain_screen.specs.Plan.{Standing, stays, is_restyled, is_sent, is_left}
use Rattle.line_cache.specs.Steps.{AreLongest, ArePlacedFrom, IsPlacedAt, if_next, joined_steps, lines_in, lines_of, standings_in, standings_of}
use Rattle.line_cache.specs.declared.step.Step.{Step}
use Rattle.line_cache.specs.declared.step.Step.TheVariants.{Keep, Restyle, Send, Drop}
use Rattle.line_cache.proofs.RangeLemmas.{range-parts}

-- ---- two steps as one

if_next-is : (b : Bool) (step both : Step) → if_next b step ≡ Some both → (b ≡ true) × (step ≡ both)
if_next-is true step both is = (refl, cc)
if_next-is false step both is = let broken = is in cc

if_next-none : (b : Bool) (step other : Step) → if_next b step ≡ None → if_next b other ≡ None
if_next-none true step other is = let broken = is in cc
if_next-none false step other is = refl

-- what two steps say, one step says, which begins as the first of them
record Joins (step next both : Step) : Type 0 where
  standings : standings_in both ≡ standings_in step ++ standings_in next
  count : lines_of both ≡ lines_of step + lines_of next
  begins : (before : Step) → joined_steps before step ≡ None → joined_steps before both ≡ None
  placed : (index : ℕ) → IsPlacedAt index step → IsPlacedAt index both

olds-joined : (kind : ℕ → Standing) (old n next more : ℕ) → old + n ≡ next →
    map kind (range_with_len old (n + more)) ≡ map kind (range_with_len old n) ++ map kind (range_with_len next more)
olds-joined kind old n next more here =
    ap (map kind) (range-parts old n more ∙ ap (λ from. range_with_len old n ++ range_with_len from more) here) ∙
    map-append kind (range_with_len old n) (range_with_len next more)

keeps : (old n next more : ℕ) → old + n ≡ next → Joins (Keep old n) (Keep next more) (Keep old (n + more))
keeps old n next more here = record {
  standings = olds-joined stays old n next more here;
  count = refl;
  begins = begins;
  placed = λ index is. is;
}
  where
    begins : (before : Step) → joined_steps before (Keep old n) ≡ None → joined_steps before (Keep old (n + more)) ≡ None
    begins (Keep from some) none = if_next-none (from + some == old) _ _ none
    begins (Restyle from some) none = refl
    begins (Send from some) none = refl
    begins (Drop some) none = refl

restyles : (old n next more : ℕ) → old + n ≡ next → Joins (Restyle old n) (Restyle next more) (Restyle old (n + more))
restyles old n next more here = record {
  standings = olds-joined is_restyled old n next more here;
  count = refl;
  begins = begins;
  placed = λ index is. is;
}
  where
    begins : (before : Step) → joined_steps before (Restyle old n) ≡ None → joined_steps before (Restyle old (n + more)) ≡ None
    begins (Keep from some) none = refl
    begins (Restyle from some) none = if_next-none (from + some == old) _ _ none
    begins (Send from some) none = refl
    begins (Drop some) none = refl

sends : (first n next more : ℕ) → Joins (Send first n) (Send next more) (Send first (n + more))
sends first n next more = record {
  standings = sym (replicate-append-replicate n more is_sent);
  count = refl;
  begins = begins;
  placed = λ index is. is;
}
  where
    begins : (before : Step) → joined_steps before (Send first n) ≡ None → joined_steps before (Send first (n + more)) ≡ None
    begins (Keep from some) none = refl
    begins (Restyle from some) none = refl
    begins (Send from some) none = if_next-none (from + some == first) _ _ none
    begins (Drop some) none = refl

drops : (n more : ℕ) → Joins (Drop n) (Drop more) (Drop (n + more))
drops n more = record {
  standings = sym (replicate-append-replicate n more is_left);
  count = refl;
  begins = begins;
  placed = λ index is. is;
}
  where
    begins : (before : Step) → joined_steps before (Drop n) ≡ None → joined_steps before (Drop (n + more)) ≡ None
    begins (Keep from some) none = refl
    begins (Restyle from some) none = refl
    begins (Send from some) none = refl
    begins (Drop some) none = let broken = none in cc

joins : (step next both : Step) → joined_steps step next ≡ Some both → Joins step next both
joins (Keep old n) (Keep next more) both is =
    let own = if_next-is (old + n == next) (Keep old (n + more)) both is in
    subst (Joins (Keep old n) (Keep next more)) own.1 (keeps old n next more (eqb-true (old + n) next own.0))
joins (Restyle old n) (Restyle next more) both is =
    let own = if_next-is (old + n == next) (Restyle old (n + more)) both is in
    subst (Joins (Restyle old n) (Restyle next more)) own.1 (restyles old n next more (eqb-true (old + n) next own.0))
joins (Send first n) (Send next more) both is =
    subst (Joins (Send first n) (Send next more)) (if_next-is (first + n == next) (Send first (n + more)) both is).1 (sends first n next more)
joins (Drop n) (Drop more) both is = let own : Drop (n + more) ≡ both = cc in subst (Joins (Drop n) (Drop more)) own (drops n more)
joins (Keep old n) (Restyle next more) both is = let broken = is in cc
joins (Keep old n) (Send next more) both is = let broken = is in cc
joins (Keep old n) (Drop more) both is = let broken = is in cc
joins (Restyle old n) (Keep next more) both is = let broken = is in cc
joins (Restyle old n) (Send next more) both is = let broken = is in cc
joins (Restyle old n) (Drop more) both is = let broken = is in cc
joins (Send first n) (Keep next more) both is = let broken = is in cc
joins (Send first n) (Restyle next more) both is = let broken = is in cc
joins (Send first n) (Drop more) both is = let broken = is in cc
joins (Drop n) (Keep next more) both is = let broken = is in cc
joins (Drop n) (Restyle next more) both is = let broken = is in cc
joins (Drop n) (Send next more) both is = let broken = is in cc

-- ---- the end of a plan

standings_of-append : (front back : List Step) → standings_of (front ++ back) ≡ standings_of front ++ standings_of back
standings_of-append front back = flat_map-append standings_in front back

pub lines_in-append : (front back : List Step) → lines_in (front ++ back) ≡ lines_in front + lines_in back
lines_in-append front back = sum_by-append lines_of front back

pub lines_in-one : (step : Step) → lines_in (step ∷ []) ≡ lines_of step
lines_in-one step = omega arith

longest-apart : (rest : List Step) (last step : Step) → 0 < lines_of step → joined_steps last step ≡ None → AreLongest (rest ++ last ∷ []) →
    AreLongest (rest ++ last ∷ step ∷ [])
longest-apart [] last step some none are = (are, none, some)
longest-apart (first ∷ []) last step some none are = (are.0, are.1, longest-apart [] last step some none are.2)
longest-apart (first ∷ next ∷ rest) last step some none are = (are.0, are.1, longest-apart (next ∷ rest) last step some none are.2)

longest-joined : (rest : List Step) (last step both : Step) → Joins last step both → AreLongest (rest ++ last ∷ []) → AreLongest (rest ++ both ∷ [])
longest-joined [] last step both j are = let sum = j.count in omega arith
longest-joined (first ∷ []) last step both j are = (are.0, j.begins first are.1, longest-joined [] last step both j are.2)
longest-joined (first ∷ next ∷ rest) last step both j are = (are.0, are.1, longest-joined (next ∷ rest) last step both j are.2)

placed-apart : (at : ℕ) (rest : List Step) (last step : Step) → IsPlacedAt (at + lines_in (rest ++ last ∷ [])) step → ArePlacedFrom at (rest ++ last ∷ []) →
    ArePlacedFrom at (rest ++ last ∷ step ∷ [])
placed-apart at [] last step is are =
    let here : at + lines_in ([] ++ last ∷ []) ≡ at + lines_of last = ap (λ n. at + n) (lines_in-one last) in (are.0, (subst (λ n. IsPlacedAt n step) here is, tt))
placed-apart at (first ∷ rest) last step is are =
    let sum = lines_in-append (first ∷ []) (rest ++ last ∷ []) in
    let one = lines_in-one first in
    let here : at + lines_in (first ∷ rest ++ last ∷ []) ≡ at + lines_of first + lines_in (rest ++ last ∷ []) = omega arith in
    (are.0, placed-apart (at + lines_of first) rest last step (subst (λ n. IsPlacedAt n step) here is) are.1)

placed-joined : (at : ℕ) (rest : List Step) (last step both : Step) → Joins last step both → ArePlacedFrom at (rest ++ last ∷ []) →
    ArePlacedFrom at (rest ++ both ∷ [])
placed-joined at [] last step both j are = (j.placed at are.0, tt)
placed-joined at (first ∷ rest) last step both j are = (are.0, placed-joined (at + lines_of first) rest last step both j are.1)

-- what a plan with one step more says
pub record IsPut (before : List Step) (step : Step) (after : List Step) : Type 0 where
  pub standings : standings_of after ≡ standings_of before ++ standings_in step
  pub count : lines_in after ≡ lines_in before + lines_of step
  pub longest : AreLongest before → AreLongest after
  pub placed : ArePlacedFrom 0 before → IsPlacedAt (lines_in before) step → ArePlacedFrom 0 after

put-joined : (rest : List Step) (last step both : Step) → Joins last step both → IsPut (rest ++ last ∷ []) step (rest ++ both ∷ [])
put-joined rest last step both j = record {
  standings =
      standings_of-append rest (both ∷ []) ∙ ap (λ own. standings_of rest ++ (own ++ [])) j.standings ∙
      ap (λ own. standings_of rest ++ own) (append-nil (standings_in last ++ standings_in step)) ∙
      sym (append_assoc (standings_of rest) (standings_in last) (standings_in step)) ∙
      ap (λ own. (standings_of rest ++ own) ++ standings_in step) (sym (append-nil (standings_in last))) ∙
      ap (λ own. own ++ standings_in step) (sym (standings_of-append rest (last ∷ [])));
  count = omega (arith, lines_in-append rest (both ∷ []), lines_in-append rest (last ∷ []), j.count);
  longest = longest-joined rest last step both j;
  placed = λ are is. placed-joined 0 rest last step both j are;
}

put-apart : (rest : List Step) (last step : Step) → 0 < lines_of step → joined_steps last step ≡ None → IsPut (rest ++ last ∷ []) step (rest ++ last ∷ step ∷ [])
put-apart rest last step some none = record {
  standings =
      ap standings_of (sym (append_assoc rest (last ∷ []) (step ∷ []))) ∙ standings_of-append (rest ++ last ∷ []) (step ∷ []) ∙
      ap (λ own. standings_of (rest ++ last ∷ []) ++ own) (append-nil (standings_in step));
  count = omega (arith, lines_in-append rest (last ∷ step ∷ []), lines_in-append rest (last ∷ []));
  longest = longest-apart rest last step some none;
  placed = λ are is. placed-apart 0 rest last step (let same : lines_in (rest ++ last ∷ []) ≡ 0 + lines_in (rest ++ last ∷ []) = omega arith in subst (λ n. IsPlacedAt n step) same is) are;
}

pub put-is : (rest : List Step) (last step : Step) (before after : List Step) → 0 < lines_of step → before ≡ rest ++ last ∷ [] →
    ((both : Step) → joined_steps last step ≡ Some both → after ≡ rest ++ both ∷ []) →
    (joined_steps last step ≡ None → after ≡ rest ++ last ∷ step ∷ []) → IsPut before step after
put-is rest last step before after some is joined apart = by (joined_steps last step) refl
  where
    by : (found : Option Step) → joined_steps last step ≡ found → IsPut before step after
    by (Some both) found =
        subst (λ plan. IsPut plan step after) (sym is) (subst (IsPut (rest ++ last ∷ []) step) (sym (joined both found)) (put-joined rest last step both (joins last step both found)))
    by None found =
        subst (λ plan. IsPut plan step after) (sym is) (subst (IsPut (rest ++ last ∷ []) step) (sym (apart found)) (put-apart rest last step some found))

pub OnOk-both : {X E : Type 0} (P Q R : Type 0) (r : Result X E) → (P → Q → R) → OnOk r P → OnOk r Q → OnOk r R
OnOk-both P Q R (Ok x) more p q = more p q
OnOk-both P Q R (Err e) more p q = tt
