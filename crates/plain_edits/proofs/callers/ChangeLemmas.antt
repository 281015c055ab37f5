-- Lemmas on changes: what stays and what appears between two revisions leads from the one text to the other.
use Rattle.std.proofs.Common.{◌≡◌, ℕ, suc, ◌+◌, ◌-◌, ◌<◌, ◌≤◌, Bool, true, false, cond, List, [], ◌∷◌, ◌++◌, length, map, drop, filter, refl, ap, ap₂, ◌∙◌, arith, append_assoc}
use Rattle.std.proofs.lemmas.List.{length-map}
use Rattle.std.specs.Prelude.{if◌then◌else◌}
use Rattle.plain_text.specs.Woven.{woven}
use Rattle.plain_text.proofs.callers.ListLemmas.{filter-yes, filter-no}
use Rattle.plain_edits.specs.History.{History, is_visible, text_at}
use Rattle.plain_edits.specs.Delta.{applied}
use Rattle.plain_edits.specs.Change.{passes_at, block, change_keeps, change_adds}

-- two weaves whose gaps agree from an index on
pub woven_from : {X Y : Type 0} (between between' : ℕ → List Y) (at : ℕ → X → List Y) (from : ℕ) (xs : List X) →
    ((i : ℕ) → from ≤ i → between i ≡ between' i) → woven between at from xs ≡ woven between' at from xs
woven_from between between' at from [] same = same from (omega arith)
woven_from between between' at from (x ∷ xs) same =
    ap₂ (λ ys zs. ys ++ (at from x ++ zs)) (same from (omega arith))
    (woven_from between between' at (from + 1) xs (λ i above. same i (omega (arith, above))))

-- what stands in front of the first gap stands in front of the weave
pub woven_front : {X Y : Type 0} (front : List Y) (between between' : ℕ → List Y) (at : ℕ → X → List Y) (from : ℕ) (xs : List X) →
    between from ≡ front ++ between' from → ((i : ℕ) → from < i → between i ≡ between' i) →
    woven between at from xs ≡ front ++ woven between' at from xs
woven_front front between between' at from [] first same = first
woven_front front between between' at from (x ∷ xs) first same =
    ap₂ (λ ys zs. ys ++ (at from x ++ zs)) first (woven_from between between' at (from + 1) xs (λ i above. same i (omega (arith, above)))) ∙
    append_assoc front (between' from) _

-- the items of a block, by the first item
module _ {X : Type 0} (p : X → Bool) (x : X) (xs : List X) where
  pub block-here : p x ≡ true → block p 0 (x ∷ xs) ≡ []
  block-here passes = ap (λ b. if b then [] else x ∷ block p 0 xs) passes

  pub block-yes : (g : ℕ) → p x ≡ true → block p (suc g) (x ∷ xs) ≡ block p g xs
  block-yes g passes = ap (λ b. block p (if b then g else suc g) xs) passes

  pub block-first : p x ≡ false → block p 0 (x ∷ xs) ≡ x ∷ block p 0 xs
  block-first fails = ap (λ b. if b then [] else x ∷ block p 0 xs) fails

  pub block-no : (g : ℕ) → p x ≡ false → block p (suc g) (x ∷ xs) ≡ block p (suc g) xs
  block-no g fails = ap (λ b. block p (if b then g else suc g) xs) fails

-- of the first value the part that stays
abbrev pub first_kept : {Y : Type 0} → Bool → List Y → List Y
first_kept stays [] = []
first_kept stays (y ∷ ys) = cond stays (y ∷ []) []

-- what passes both tests gives the next value, and what passes the second alone gives a new one
abbrev pub walked : {X Y : Type 0} → (X → Bool) → (X → Bool) → (X → Y) → List X → List Y → List Y
walked p q new [] ys = []
walked p q new (x ∷ xs) ys =
    cond (p x) (first_kept (q x) ys ++ walked p q new xs (drop 1 ys)) (cond (q x) (new x ∷ []) [] ++ walked p q new xs ys)

module _ {X Y : Type 0} (p q : X → Bool) (new : X → Y) where
  -- what the gaps and the values become, counted from a number on, as a change between the tests says
  pub record IsChange (between : ℕ → List Y) (at : ℕ → Y → List Y) (from : ℕ) (xs : List X) : Type 0 where
    pub gaps : (g : ℕ) → between (from + g) ≡ map new (filter q (block p g xs))
    pub items : (i : ℕ) (y : Y) → at (from + i) y ≡ cond (passes_at q i (filter p xs)) (y ∷ []) []

  IsChange-yes : (between : ℕ → List Y) (at : ℕ → Y → List Y) (from : ℕ) (x : X) (xs : List X) → p x ≡ true →
      IsChange between at from (x ∷ xs) → IsChange between at (from + 1) xs
  IsChange-yes between at from x xs passes change = record {
    gaps = λ g.
        let next : from + 1 + g ≡ from + suc g = omega arith in
        ap between next ∙ change.gaps (suc g) ∙ ap (λ ys. map new (filter q ys)) (block-yes p x xs g passes);
    items = λ i y.
        let next : from + 1 + i ≡ from + suc i = omega arith in
        ap (λ n. at n y) next ∙ change.items (suc i) y ∙ ap (λ ys. cond (passes_at q (suc i) ys) (y ∷ []) []) (filter-yes p x xs passes);
  }

  -- the gaps of what is left, after an item that fails the first test
  later : ℕ → List X → ℕ → List Y
  later from xs g = map new (filter q (block p (g - from) xs))

  IsChange-no : (between : ℕ → List Y) (at : ℕ → Y → List Y) (from : ℕ) (x : X) (xs : List X) → p x ≡ false →
      IsChange between at from (x ∷ xs) → IsChange (later from xs) at from xs
  unfolding later
  IsChange-no between at from x xs fails change = record {
    gaps = λ g.
        let back : from + g - from ≡ g = omega arith in
        ap (λ n. map new (filter q (block p n xs))) back;
    items = λ i y. change.items i y ∙ ap (λ ys. cond (passes_at q i ys) (y ∷ []) []) (filter-no p x xs fails);
  }

  new_first : (x : X) (ys : List X) (b : Bool) → map new (cond b (x ∷ ys) ys) ≡ cond b (new x ∷ []) [] ++ map new ys
  new_first x ys true = refl
  new_first x ys false = refl

  -- A CHANGE, woven into the values, is the walk
  pub woven-change : (between : ℕ → List Y) (at : ℕ → Y → List Y) (from : ℕ) (xs : List X) (ys : List Y) → length ys ≡ length (filter p xs) →
      IsChange between at from xs → woven between at from ys ≡ walked p q new xs ys
  unfolding later
  woven-change between at from [] [] same change =
      let none : from ≡ from + 0 = omega arith in
      ap between none ∙ change.gaps 0
  woven-change between at from [] (y ∷ ys) same change = absurd (omega (arith, same))
  woven-change between at from (x ∷ xs) ys same change =
      elim (p x) as (λ b. p x ≡ b → woven between at from ys ≡
      cond b (first_kept (q x) ys ++ walked p q new xs (drop 1 ys)) (cond (q x) (new x ∷ []) [] ++ walked p q new xs ys)) [
        | true ↦ λ passes. kept passes ys (same ∙ ap length (filter-yes p x xs passes)) (λ zs as_many.
            woven-change between at (from + 1) xs zs as_many (IsChange-yes between at from x xs passes change))
        | false ↦ λ fails.
            woven_front (cond (q x) (new x ∷ []) []) between (later from xs) at from ys
            (ap between none ∙ change.gaps 0 ∙ ap (λ zs. map new (filter q zs)) (block-first p x xs fails) ∙
            new_first x (filter q (block p 0 xs)) (q x) ∙ ap (λ n. cond (q x) (new x ∷ []) [] ++ map new (filter q (block p n xs))) back)
            (λ i above. after fails i above) ∙
            ap (λ zs. cond (q x) (new x ∷ []) [] ++ zs)
            (woven-change (later from xs) at from xs ys (same ∙ ap length (filter-no p x xs fails)) (IsChange-no between at from x xs fails change))
      ] refl
    where
      none : from ≡ from + 0
      none = omega arith

      back : 0 ≡ from - from
      back = omega arith

      after : p x ≡ false → (i : ℕ) → from < i → between i ≡ map new (filter q (block p (i - from) xs))
      after fails i above =
          let at_gap : i ≡ from + suc (i - from - 1) = omega (arith, above) in
          let gap : suc (i - from - 1) ≡ i - from = omega (arith, above) in
          ap between at_gap ∙ change.gaps (suc (i - from - 1)) ∙
          ap (λ zs. map new (filter q zs)) (block-no p x xs (i - from - 1) fails ∙ ap (λ n. block p n xs) gap)

      kept : p x ≡ true → (ys : List Y) → length ys ≡ suc (length (filter p xs)) →
          ((zs : List Y) → length zs ≡ length (filter p xs) → woven between at (from + 1) zs ≡ walked p q new xs zs) →
          woven between at from ys ≡ first_kept (q x) ys ++ walked p q new xs (drop 1 ys)
      kept passes [] as_many rest = absurd (omega (arith, as_many))
      kept passes (y ∷ ys) as_many rest =
          ap₂ (λ zs more. zs ++ more) (ap between none ∙ change.gaps 0 ∙ ap (λ zs. map new (filter q zs)) (block-here p x xs passes))
          (ap₂ (λ zs more. zs ++ more)
          (ap (λ n. at n y) none ∙ change.items 0 y ∙ ap (λ zs. cond (passes_at q 0 zs) (y ∷ []) []) (filter-yes p x xs passes))
          (rest ys (omega (arith, as_many))))

-- the walk over what passes the first test gives what passes the second
walked-text : {X Y : Type 0} (p q : X → Bool) (f : X → Y) (xs : List X) → walked p q f xs (map f (filter p xs)) ≡ map f (filter q xs)
walked-text p q f [] = refl
walked-text {X} {Y} p q f (x ∷ xs) = by (p x) (q x) (walked-text p q f xs)
  where
    by : (b d : Bool) → walked p q f xs (map f (filter p xs)) ≡ map f (filter q xs) → cond b (first_kept d (map f (cond b (x ∷ filter p xs) (filter p xs))) ++ walked p q f xs (drop 1 (map f (cond b (x ∷ filter p xs) (filter p xs)))))
        (cond d (f x ∷ []) [] ++ walked p q f xs (map f (cond b (x ∷ filter p xs) (filter p xs)))) ≡ map f (cond d (x ∷ filter q xs) (filter q xs))
    by true true rest = ap (λ ys. f x ∷ ys) rest
    by true false rest = rest
    by false true rest = ap (λ ys. f x ∷ ys) rest
    by false false rest = rest

-- A CHANGE LEADS from the text of the one revision to that of the other
pub applied-change : (history : History) (from to : ℕ) →
    applied (change_keeps history from to) (change_adds history from to) (text_at history from) ≡ text_at history to
applied-change history from to =
    woven-change (is_visible history.revisions from) (is_visible history.revisions to) (λ tagged. tagged.character)
    (change_adds history from to) (λ index c. if change_keeps history from to index then c ∷ [] else []) 0 history.characters (text_at history from)
    (length-map (filter (is_visible history.revisions from) history.characters) (λ tagged. tagged.character))
    (record {
      gaps = λ g. let none : 0 + g ≡ g = omega arith in ap (change_adds history from to) none;
      items = λ i c. let none : 0 + i ≡ i = omega arith in ap (λ n. if change_keeps history from to n then c ∷ [] else []) none;
    }) ∙
    walked-text (is_visible history.revisions from) (is_visible history.revisions to) (λ tagged. tagged.character) history.characters
