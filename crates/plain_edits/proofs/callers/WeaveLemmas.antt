-- A list that is laid in blocks, taken apart again; and what a block holds.
use Rattle.std.proofs.Common.{◌≡◌, ℕ, zero, suc, ◌+◌, ◌≤◌, Bool, true, false, if◌then◌else◌, List, [], ◌∷◌, ◌++◌, length, map, filter, refl, ap, ap₂, ◌∙◌, arith}
use Rattle.std.specs.List.{AllByRecursion}
use Rattle.std.proofs.lemmas.List.Elements.{filter-append}
use Rattle.plain_text.specs.Woven.{woven}
use Rattle.plain_text.proofs.callers.ListLemmas.{filter-yes, filter_none}
use Rattle.plain_edits.specs.Change.{block}
use Rattle.plain_edits.proofs.callers.ChangeLemmas.{block-here, block-yes, block-first, block-no}

-- two weaves that agree at each of their gaps
pub woven_within : {X Y : Type 0} (Q : X → Type 0) (between between' : ℕ → List Y) (at at' : ℕ → X → List Y) → ((n : ℕ) (x : X) → Q x → at n x ≡ at' n x) →
    (from : ℕ) (xs : List X) → ((g : ℕ) → from ≤ g → g ≤ from + length xs → between g ≡ between' g) → AllByRecursion Q xs →
    woven between at from xs ≡ woven between' at' from xs
woven_within Q between between' at at' there from [] same each = same from (omega arith) (omega arith)
woven_within Q between between' at at' there from (x ∷ xs) same each =
    ap₂ (λ ys zs. ys ++ zs) (same from (omega arith) (omega arith))
    (ap₂ (λ ys zs. ys ++ zs) (there from x each.0)
    (woven_within Q between between' at at' there (from + 1) xs (λ g low high. same g (omega (arith, low)) (omega (arith, high))) each.1))

-- a weave of items that took the place of others
pub woven-items : {X Y Z : Type 0} (between : ℕ → List Z) (at : ℕ → Y → List Z) (item : ℕ → X → Y) (from : ℕ) (xs : List X) →
    woven between at from (woven (λ _. []) (λ n x. item n x ∷ []) from xs) ≡ woven between (λ n x. at n (item n x)) from xs
woven-items between at item from [] = refl
woven-items between at item from (x ∷ xs) = ap (λ ys. between from ++ (at from (item from x) ++ ys)) (woven-items between at item (from + 1) xs)

module _ {X : Type 0} (p : X → Bool) where
  block-all : (xs : List X) → AllByRecursion (λ x. p x ≡ false) xs → block p 0 xs ≡ xs
  block-all [] each = refl
  block-all (x ∷ xs) each = block-first p x xs each.0 ∙ ap (λ ys. x ∷ ys) (block-all xs each.1)

  block-stop : (xs : List X) (y : X) (ys : List X) → AllByRecursion (λ x. p x ≡ false) xs → p y ≡ true → block p 0 (xs ++ y ∷ ys) ≡ xs
  block-stop [] y ys each passes = block-here p y ys passes
  block-stop (x ∷ xs) y ys each passes = block-first p x (xs ++ y ∷ ys) each.0 ∙ ap (λ zs. x ∷ zs) (block-stop xs y ys each.1 passes)

  block-past : (gap : ℕ) (xs : List X) (y : X) (ys : List X) → AllByRecursion (λ x. p x ≡ false) xs → p y ≡ true → block p (suc gap) (xs ++ y ∷ ys) ≡ block p gap ys
  block-past gap [] y ys each passes = block-yes p y ys gap passes
  block-past gap (x ∷ xs) y ys each passes = block-no p x (xs ++ y ∷ ys) gap each.0 ∙ block-past gap xs y ys each.1 passes

  -- what stands between the blocks passes, and nothing in them does
  module _ {Z : Type 0} (Q : Z → Type 0) (blocks : ℕ → List X) (item : ℕ → Z → X) (hidden : (g : ℕ) → AllByRecursion (λ x. p x ≡ false) (blocks g))
      (passes : (n : ℕ) (z : Z) → Q z → p (item n z) ≡ true) where
    pub filter-weave : (from : ℕ) (zs : List Z) → AllByRecursion Q zs →
        filter p (woven blocks (λ n z. item n z ∷ []) from zs) ≡ woven (λ _. []) (λ n z. item n z ∷ []) from zs
    filter-weave from [] each = filter_none p (blocks from) (hidden from)
    filter-weave from (z ∷ zs) each =
        filter-append p (blocks from) _ ∙
        ap₂ (λ xs ys. xs ++ ys) (filter_none p (blocks from) (hidden from))
        (filter-yes p (item from z) _ (passes from z each.0) ∙ ap (λ ys. item from z ∷ ys) (filter-weave (from + 1) zs each.1))

    pub block-weave : (gap from : ℕ) (zs : List Z) → gap ≤ length zs → AllByRecursion Q zs →
        block p gap (woven blocks (λ n z. item n z ∷ []) from zs) ≡ blocks (from + gap)
    block-weave zero from [] within each = block-all (blocks from) (hidden from) ∙ (let none : from ≡ from + 0 = omega arith in ap blocks none)
    block-weave (suc gap) from [] within each = absurd (omega (arith, within))
    block-weave zero from (z ∷ zs) within each =
        block-stop (blocks from) (item from z) _ (hidden from) (passes from z each.0) ∙ (let none : from ≡ from + 0 = omega arith in ap blocks none)
    block-weave (suc gap) from (z ∷ zs) within each =
        block-past gap (blocks from) (item from z) _ (hidden from) (passes from z each.0) ∙ block-weave gap (from + 1) zs (omega (arith, within)) each.1 ∙
        (let next : from + 1 + gap ≡ from + suc gap = omega arith in ap blocks next)

-- ---- one block

-- what holds of each item holds of each in a block
pub AllByRecursion-block : {X : Type 0} (P : X → Type 0) (p : X → Bool) (gap : ℕ) (xs : List X) → AllByRecursion P xs → AllByRecursion P (block p gap xs)
AllByRecursion-block P p gap [] each = tt
AllByRecursion-block P p zero (x ∷ xs) each =
    elim (p x) as (λ b. AllByRecursion P (if b then [] else x ∷ block p 0 xs)) [
      | true ↦ tt
      | false ↦ (each.0, AllByRecursion-block P p 0 xs each.1)
    ]
AllByRecursion-block P p (suc gap) (x ∷ xs) each = AllByRecursion-block P p (if p x then gap else suc gap) xs each.1

-- the blocks of what becomes of the items
pub block-map : {X Y : Type 0} (p : Y → Bool) (f : X → Y) (gap : ℕ) (xs : List X) → block p gap (map f xs) ≡ map f (block (λ x. p (f x)) gap xs)
block-map p f gap [] = refl
block-map p f zero (x ∷ xs) = ap (λ ys. if p (f x) then [] else f x ∷ ys) (block-map p f 0 xs) ∙ either (p (f x))
  where
    either : (b : Bool) → (if b then [] else f x ∷ map f (block (λ y. p (f y)) 0 xs)) ≡ map f (if b then [] else x ∷ block (λ y. p (f y)) 0 xs)
    either true = refl
    either false = refl
block-map p f (suc gap) (x ∷ xs) = block-map p f (if p (f x) then gap else suc gap) xs
