-- The lines that a change touches are those that the histories touch.
use Rattle.std.proofs.Common.{◌≡◌, ◌≢◌, ℕ, zero, suc, ◌+◌, ◌-◌, ◌<◌, ◌≤◌, Bool, true, false, cond, List, [], ◌∷◌, ◌++◌, length, map, take, drop, filter, refl, ap, ap₂, sym, subst, ◌∙◌, arith, append_assoc, inl, inr, zero-add}
use Rattle.std.specs.Prelude.{if◌then◌else◌, reverse, eqb, slice_range, nat_lt, ◌==◌}
use Rattle.std.specs.List.{enumerate_from, flat_map, onto_first, prefix_len}
use Rattle.std.specs.Str.{bytes_eq}
use Rattle.std.proofs.Math.Seq.{take-add}
use Rattle.std.proofs.lemmas.Bool.{cases_lt, eq-eqb, eqb-true, le-ltb, lt-ltb, ne_eqb}
use Rattle.std.proofs.lemmas.Grind.{flat_map-append}
use Rattle.std.proofs.lemmas.List.{length-map, length-reverse, length-take-le, map-append, reverse-append, take-append-drop}
use Rattle.std.proofs.lemmas.List.Folds.{prefix_len-append}
use Rattle.std.proofs.lemmas.List.Sums.{prefix_len-le-length, sum_by-append}
use Rattle.std.proofs.lemmas.Slice.Eq.{bytes_eq-Decides}
use Rattle.plain_text.proofs.callers.ListLemmas.{filter-no, filter-yes}
use Rattle.plain_text.specs.Lines.{logical_lines}
use Rattle.plain_text.specs.declared.run.Run.{Run}
use Rattle.plain_edits.specs.declared.delta.UnitDelta.{UnitDelta}
use Rattle.plain_edits.specs.Change.{block, indices_of, passes_at, shown_indices}
use Rattle.plain_edits.specs.History.{History, Tagged, head, is_visible, text_at}
use Rattle.plain_edits.specs.UnitDelta.{unit_adds, unit_keeps}
use Rattle.plain_edits.proofs.callers.ChangeLemmas.{block-first, block-here, block-no, block-yes}
use Rattle.plain_screen.specs.Touched.{common_len}
use Rattle.plain_screen.specs.View.{logical_line_from, logical_line_of}
use Rattle.plain_screen.proofs.callers.ViewLemmas.{logical_lines-some}
use Rattle.rope_node.specs.Lengths.{lf_count}
use Rattle.delta_core.specs.UnitStep.{UnitStep, Dropped, Kept, New, step_of, steps_from, steps_of}
use Rattle.line_index.specs.Index.{is_kept, kept_left, kept_right, touched_lines}
use Rattle.rev_engine.specs.Engine.{IsChangeBy}
use Rattle.doc_session.specs.Touched.{AreTouched, touched_between}

-- ---- the steps of a change, along the characters

-- what becomes of a character, by whether it is shown before and after
abbrev own_step : Bool → Bool → ℕ → List UnitStep
own_step true stays c = step_of stays ∷ []
own_step false true c = New c ∷ []
own_step false false c = []

abbrev along : {X : Type 0} → (X → Bool) → (X → Bool) → (X → ℕ) → List X → List UnitStep
along p q f xs = flat_map (λ x. own_step (p x) (q x) (f x)) xs

steps_from-later : (keeps : ℕ → Bool) (adds others : ℕ → List ℕ) (from n : ℕ) → ((g : ℕ) → from ≤ g → adds g ≡ others g) →
    steps_from keeps adds from n ≡ steps_from keeps others from n
steps_from-later keeps adds others from zero same = ap (λ ys. map New ys) (same from (omega arith))
steps_from-later keeps adds others from (suc n) same =
    ap₂ (λ ys zs. map New ys ++ step_of (keeps from) ∷ zs) (same from (omega arith))
    (steps_from-later keeps adds others (from + 1) n (λ g above. same g (omega (arith, above))))

steps_from-front : (keeps : ℕ → Bool) (front : List ℕ) (adds others : ℕ → List ℕ) (from n : ℕ) → adds from ≡ front ++ others from →
    ((g : ℕ) → from < g → adds g ≡ others g) → steps_from keeps adds from n ≡ map New front ++ steps_from keeps others from n
steps_from-front keeps front adds others from zero first same = ap (λ ys. map New ys) first ∙ map-append New front (others from)
steps_from-front keeps front adds others from (suc n) first same =
    ap₂ (λ ys zs. map New ys ++ step_of (keeps from) ∷ zs) first
    (steps_from-later keeps adds others (from + 1) n (λ g above. same g (omega (arith, above)))) ∙
    ap (λ ys. ys ++ step_of (keeps from) ∷ steps_from keeps others (from + 1) n) (map-append New front (others from)) ∙
    append_assoc (map New front) (map New (others from)) (step_of (keeps from) ∷ steps_from keeps others (from + 1) n)

module _ {X : Type 0} (p q : X → Bool) (f : X → ℕ) where
  front_of : (c : ℕ) (ys : List X) (x : X) (b : Bool) → f x ≡ c → map f (cond b (x ∷ ys) ys) ≡ cond b (c ∷ []) [] ++ map f ys
  front_of c ys x true is = ap (λ n. n ∷ map f ys) is
  front_of c ys x false is = refl

  -- the gaps of what is left, after an item that fails the first test
  abbrev later : ℕ → List X → ℕ → List ℕ
  later from xs g = map f (filter q (block p (g - from) xs))

  new_step : (c : ℕ) (b : Bool) → map New (cond b (c ∷ []) []) ≡ own_step false b c
  new_step c true = refl
  new_step c false = refl

  steps-along : (keeps : ℕ → Bool) (adds : ℕ → List ℕ) (from : ℕ) (xs : List X) →
      ((g : ℕ) → adds (from + g) ≡ map f (filter q (block p g xs))) → ((i : ℕ) → keeps (from + i) ≡ passes_at q i (filter p xs)) →
      steps_from keeps adds from (length (filter p xs)) ≡ along p q f xs
  steps-along keeps adds from [] gaps items =
      let none : from ≡ from + 0 = omega arith in
      ap (λ ys. map New ys) (ap adds none ∙ gaps 0)
  steps-along keeps adds from (x ∷ xs) gaps items =
      elim (p x) as (λ b. p x ≡ b → steps_from keeps adds from (length (filter p (x ∷ xs))) ≡ own_step b (q x) (f x) ++ along p q f xs) [
        | true ↦ λ passes. kept passes (steps-along keeps adds (from + 1) xs)
        | false ↦ λ fails. passed fails (steps-along keeps (later from xs) from xs)
      ] refl
    where
      none : from ≡ from + 0
      none = omega arith

      kept : p x ≡ true → (((g : ℕ) → adds (from + 1 + g) ≡ map f (filter q (block p g xs))) →
          ((i : ℕ) → keeps (from + 1 + i) ≡ passes_at q i (filter p xs)) →
          steps_from keeps adds (from + 1) (length (filter p xs)) ≡ along p q f xs) →
          steps_from keeps adds from (length (filter p (x ∷ xs))) ≡ step_of (q x) ∷ along p q f xs
      kept passes rest =
          ap (λ ys. steps_from keeps adds from (length ys)) (filter-yes p x xs passes) ∙
          ap (λ ys. map New ys ++ step_of (keeps from) ∷ steps_from keeps adds (from + 1) (length (filter p xs)))
          (ap adds none ∙ gaps 0 ∙ ap (λ zs. map f (filter q zs)) (block-here p x xs passes)) ∙
          ap₂ (λ b zs. step_of b ∷ zs) (ap keeps none ∙ items 0 ∙ ap (λ ys. passes_at q 0 ys) (filter-yes p x xs passes))
          (rest
          (λ g.
          let next : from + 1 + g ≡ from + suc g = omega arith in
          ap adds next ∙ gaps (suc g) ∙ ap (λ ys. map f (filter q ys)) (block-yes p x xs g passes))
          (λ i.
          let next : from + 1 + i ≡ from + suc i = omega arith in
          ap keeps next ∙ items (suc i) ∙ ap (λ ys. passes_at q (suc i) ys) (filter-yes p x xs passes)))

      passed : p x ≡ false → (((g : ℕ) → later from xs (from + g) ≡ map f (filter q (block p g xs))) →
          ((i : ℕ) → keeps (from + i) ≡ passes_at q i (filter p xs)) →
          steps_from keeps (later from xs) from (length (filter p xs)) ≡ along p q f xs) →
          steps_from keeps adds from (length (filter p (x ∷ xs))) ≡ own_step false (q x) (f x) ++ along p q f xs
      passed fails rest =
          let back : 0 ≡ from - from = omega arith in
          ap (λ ys. steps_from keeps adds from (length ys)) (filter-no p x xs fails) ∙
          steps_from-front keeps (cond (q x) (f x ∷ []) []) adds (later from xs) from (length (filter p xs))
          (ap adds none ∙ gaps 0 ∙ ap (λ zs. map f (filter q zs)) (block-first p x xs fails) ∙
          front_of (f x) (filter q (block p 0 xs)) x (q x) refl ∙
          ap (λ k. cond (q x) (f x ∷ []) [] ++ map f (filter q (block p k xs))) back)
          (λ g above.
          let at_gap : g ≡ from + suc (g - from - 1) = omega (arith, above) in
          let gap : suc (g - from - 1) ≡ g - from = omega (arith, above) in
          ap adds at_gap ∙ gaps (suc (g - from - 1)) ∙
          ap (λ zs. map f (filter q zs)) (block-no p x xs (g - from - 1) fails ∙ ap (λ k. block p k xs) gap)) ∙
          ap₂ (λ ys zs. ys ++ zs) (new_step (f x) (q x))
          (rest
          (λ g. let same : from + g - from ≡ g = omega arith in ap (λ k. map f (filter q (block p k xs))) same)
          (λ i. items i ∙ ap (λ ys. passes_at q i ys) (filter-no p x xs fails)))

-- ---- items that each have a number of their own

module _ {Z : Type 0} (num : Z → ℕ) where
  -- the numbers of those that pass
  abbrev picked : (Z → Bool) → List Z → List ℕ
  picked p zs = flat_map (λ z. cond (p z) (num z ∷ []) []) zs

  -- two numbers are not the same, and none of these items has a number
  abbrev differ : ℕ → ℕ → Type 0
  differ n m = ((n == m) ≡ false) × ((m == n) ≡ false)

  abbrev NoneIs : ℕ → List Z → Type 0
  NoneIs n [] = Unit {0}
  NoneIs n (z ∷ zs) = differ n (num z) × NoneIs n zs

  abbrev AreApart : List Z → Type 0
  AreApart [] = Unit {0}
  AreApart (z ∷ zs) = NoneIs (num z) zs × AreApart zs

  NoneIs-append : (n : ℕ) (ys zs : List Z) → NoneIs n ys → NoneIs n zs → NoneIs n (ys ++ zs)
  NoneIs-append n [] zs one other = other
  NoneIs-append n (y ∷ ys) zs one other = (one.0, NoneIs-append n ys zs one.1 other)

  NoneIs-reverse : (n : ℕ) (zs : List Z) → NoneIs n zs → NoneIs n (reverse zs)
  NoneIs-reverse n [] none = tt
  NoneIs-reverse n (z ∷ zs) none =
      subst (NoneIs n) (sym (reverse-append (z ∷ []) zs)) (NoneIs-append n (reverse zs) (z ∷ []) (NoneIs-reverse n zs none.1) (none.0, tt))

  AreApart-last : (ys : List Z) (z : Z) → AreApart ys → NoneIs (num z) ys → AreApart (ys ++ z ∷ [])
  AreApart-last [] z apart none = (tt, tt)
  AreApart-last (y ∷ ys) z apart none =
      (NoneIs-append (num y) ys (z ∷ []) apart.0 ((none.0.1, none.0.0), tt), AreApart-last ys z apart.1 none.1)

  AreApart-reverse : (zs : List Z) → AreApart zs → AreApart (reverse zs)
  AreApart-reverse [] apart = tt
  AreApart-reverse (z ∷ zs) apart =
      subst AreApart (sym (reverse-append (z ∷ []) zs))
      (AreApart-last (reverse zs) z (AreApart-reverse zs apart.1) (NoneIs-reverse (num z) zs apart.0))

  common-left : (p : Z → Bool) (n : ℕ) (zs : List Z) (ys : List ℕ) → NoneIs n zs → common_len (picked p zs) (n ∷ ys) ≡ 0
  common-left p n [] ys none = refl
  common-left p n (z ∷ zs) ys none = by (common-left p n zs ys none.1) (p z)
    where
      by : common_len (picked p zs) (n ∷ ys) ≡ 0 → (b : Bool) → common_len (cond b (num z ∷ []) [] ++ picked p zs) (n ∷ ys) ≡ 0
      by rest true = ap (λ d. cond d (1 + common_len (picked p zs) ys) 0) none.0.1
      by rest false = rest

  common-right : (q : Z → Bool) (n : ℕ) (xs : List ℕ) (zs : List Z) → NoneIs n zs → common_len (n ∷ xs) (picked q zs) ≡ 0
  common-right q n xs [] none = refl
  common-right q n xs (z ∷ zs) none = by (common-right q n xs zs none.1) (q z)
    where
      by : common_len (n ∷ xs) (picked q zs) ≡ 0 → (b : Bool) → common_len (n ∷ xs) (cond b (num z ∷ []) [] ++ picked q zs) ≡ 0
      by rest true = ap (λ d. cond d (1 + common_len xs (picked q zs)) 0) none.0.0
      by rest false = rest

  module _ (p q : Z → Bool) (f : Z → ℕ) where
    -- the common front of those that pass the one test and the other is what is kept at the front
    kept-common : (zs : List Z) → AreApart zs → prefix_len is_kept (along p q f zs) ≡ common_len (picked p zs) (picked q zs)
    kept-common [] apart = refl
    kept-common (z ∷ zs) apart = by (kept-common zs apart.1) (p z) (q z)
      where
        by : prefix_len is_kept (along p q f zs) ≡ common_len (picked p zs) (picked q zs) → (b d : Bool) → prefix_len is_kept (own_step b d (f z) ++ along p q f zs) ≡
            common_len (cond b (num z ∷ []) [] ++ picked p zs) (cond d (num z ∷ []) [] ++ picked q zs)
        by rest true true =
            ap (λ n. 1 + n) rest ∙
            sym (ap (λ d. cond d (1 + common_len (picked p zs) (picked q zs)) 0) (eq-eqb (num z) (num z) refl))
        by rest true false = sym (common-right q (num z) (picked p zs) zs apart.0)
        by rest false true = sym (common-left p (num z) zs (picked q zs) apart.0)
        by rest false false = rest

    -- where all are kept the same pass both
    same-picked : (zs : List Z) → prefix_len is_kept (along p q f zs) ≡ length (along p q f zs) → picked p zs ≡ picked q zs
    same-picked [] all = refl
    same-picked (z ∷ zs) all = by (same-picked zs) (p z) (q z) all
      where
        by : (prefix_len is_kept (along p q f zs) ≡ length (along p q f zs) → picked p zs ≡ picked q zs) → (b d : Bool) → prefix_len is_kept (own_step b d (f z) ++ along p q f zs) ≡ length (own_step b d (f z) ++ along p q f zs) →
            cond b (num z ∷ []) [] ++ picked p zs ≡ cond d (num z ∷ []) [] ++ picked q zs
        by rest true true is = ap (λ ys. num z ∷ ys) (rest (omega (arith, is)))
        by rest true false is = absurd (omega (arith, is))
        by rest false true is = absurd (omega (arith, is))
        by rest false false is = rest is

-- ---- steps that are kept at the front and at the end

-- how many characters steps make
abbrev made : List UnitStep → ℕ
made [] = 0
made (Kept ∷ steps) = 1 + made steps
made (Dropped ∷ steps) = made steps
made (New c ∷ steps) = 1 + made steps

kept-last : (steps : List UnitStep) (step : UnitStep) → prefix_len is_kept (reverse (step ∷ steps)) ≡
    cond (eqb (prefix_len is_kept (reverse steps)) (length (reverse steps))) (length (reverse steps) + prefix_len is_kept (step ∷ []))
    (prefix_len is_kept (reverse steps))
kept-last steps step =
    ap (λ ys. prefix_len is_kept ys) (reverse-append (step ∷ []) steps) ∙ prefix_len-append is_kept (reverse steps) (step ∷ [])

-- how many steps are kept at the end
abbrev end_kept : List UnitStep → ℕ
end_kept steps = prefix_len is_kept (reverse steps)

-- the steps that are kept at the end make characters
kept-made : (steps : List UnitStep) → prefix_len is_kept (reverse steps) ≤ made steps
kept-made [] = omega arith
kept-made (step ∷ steps) = subst (λ n. n ≤ made (step ∷ steps)) (sym (kept-last steps step)) (by (kept-made steps) (eqb (end_kept steps) (length (reverse steps))) refl step)
  where
    by : end_kept steps ≤ made steps → (b : Bool) → eqb (end_kept steps) (length (reverse steps)) ≡ b → (own : UnitStep) →
        cond b (length (reverse steps) + prefix_len is_kept (own ∷ [])) (end_kept steps) ≤ made (own ∷ steps)
    by rest true is Kept = omega (arith, eqb-true (end_kept steps) (length (reverse steps)) is, rest)
    by rest true is Dropped = omega (arith, eqb-true (end_kept steps) (length (reverse steps)) is, rest)
    by rest true is (New c) = omega (arith, eqb-true (end_kept steps) (length (reverse steps)) is, rest)
    by rest false is Kept = omega (arith, rest)
    by rest false is Dropped = rest
    by rest false is (New c) = omega (arith, rest)

-- where all steps are kept from the end on, they are from the front on
kept-full : (steps : List UnitStep) → prefix_len is_kept (reverse steps) ≡ length steps → prefix_len is_kept steps ≡ length steps
kept-full [] all = refl
kept-full (step ∷ steps) all = by (kept-full steps) (eqb (end_kept steps) (length (reverse steps))) refl step (sym (kept-last steps step) ∙ all)
  where
    by : (end_kept steps ≡ length steps → prefix_len is_kept steps ≡ length steps) → (b : Bool) → eqb (end_kept steps) (length (reverse steps)) ≡ b → (own : UnitStep) →
        cond b (length (reverse steps) + prefix_len is_kept (own ∷ [])) (end_kept steps) ≡ length (own ∷ steps) → prefix_len is_kept (own ∷ steps) ≡ length (own ∷ steps)
    by rest true is Kept long =
        ap (λ n. 1 + n) (rest (eqb-true (end_kept steps) (length (reverse steps)) is ∙ length-reverse steps)) ∙ omega arith
    by rest true is Dropped long = absurd (omega (arith, long, length-reverse steps))
    by rest true is (New c) long = absurd (omega (arith, long, length-reverse steps))
    by rest false is own long = absurd (omega (arith, long, length-reverse steps, prefix_len-le-length is_kept (reverse steps)))

-- where not all are kept, those at the front and those at the end are others
kept-apart : (steps : List UnitStep) → prefix_len is_kept steps < length steps →
    prefix_len is_kept steps + prefix_len is_kept (reverse steps) ≤ made steps
kept-apart [] some = absurd (omega (arith, some))
kept-apart (Dropped ∷ steps) some = omega (arith, kept-made (Dropped ∷ steps))
kept-apart (New c ∷ steps) some = omega (arith, kept-made (New c ∷ steps))
kept-apart (Kept ∷ steps) some =
    subst (λ n. 1 + prefix_len is_kept steps + n ≤ 1 + made steps) (sym (kept-last steps Kept)) (by (kept-apart steps) (eqb (end_kept steps) (length (reverse steps))) refl)
  where
    by : (prefix_len is_kept steps < length steps → prefix_len is_kept steps + end_kept steps ≤ made steps) → (b : Bool) → eqb (end_kept steps) (length (reverse steps)) ≡ b →
        1 + prefix_len is_kept steps + cond b (length (reverse steps) + prefix_len is_kept (Kept ∷ [])) (end_kept steps) ≤ 1 + made steps
    by apart true is =
        absurd (omega (arith, some, kept-full steps (eqb-true (end_kept steps) (length (reverse steps)) is ∙ length-reverse steps)))
    by apart false is =
        let rest : prefix_len is_kept steps + end_kept steps ≤ made steps = apart (omega (arith, some)) in
        omega (arith, rest)

made-along : {X : Type 0} (p q : X → Bool) (f num : X → ℕ) (xs : List X) → made (along p q f xs) ≡ length (picked num q xs)
made-along p q f num [] = refl
made-along p q f num (x ∷ xs) = by (made-along p q f num xs) (p x) (q x)
  where
    by : made (along p q f xs) ≡ length (picked num q xs) → (b d : Bool) → made (own_step b d (f x) ++ along p q f xs) ≡ length (cond d (num x ∷ []) [] ++ picked num q xs)
    by rest true true = omega (arith, rest)
    by rest true false = rest
    by rest false true = omega (arith, rest)
    by rest false false = rest

-- an item's step from the end
along-reverse : {X : Type 0} (p q : X → Bool) (f : X → ℕ) (xs : List X) → reverse (along p q f xs) ≡ along p q f (reverse xs)
along-reverse p q f [] = refl
along-reverse p q f (x ∷ xs) =
    reverse-append (own_step (p x) (q x) (f x)) (along p q f xs) ∙ ap₂ (λ ys zs. ys ++ zs) (along-reverse p q f xs) (by (p x) (q x)) ∙
    sym (flat_map-append (λ z. own_step (p z) (q z) (f z)) (reverse xs) (x ∷ [])) ∙ ap (λ ys. along p q f ys) (sym (reverse-append (x ∷ []) xs))
  where
    by : (b d : Bool) → reverse (own_step b d (f x)) ≡ own_step b d (f x) ++ []
    by true true = refl
    by true false = refl
    by false true = refl
    by false false = refl

picked-reverse : {X : Type 0} (num : X → ℕ) (p : X → Bool) (xs : List X) → reverse (picked num p xs) ≡ picked num p (reverse xs)
picked-reverse num p [] = refl
picked-reverse num p (x ∷ xs) =
    reverse-append (cond (p x) (num x ∷ []) []) (picked num p xs) ∙ ap₂ (λ ys zs. ys ++ zs) (picked-reverse num p xs) (by (p x)) ∙
    sym (flat_map-append (λ z. cond (p z) (num z ∷ []) []) (reverse xs) (x ∷ [])) ∙
    ap (λ ys. picked num p ys) (sym (reverse-append (x ∷ []) xs))
  where
    by : (b : Bool) → reverse (cond b (num x ∷ []) []) ≡ cond b (num x ∷ []) [] ++ []
    by true = refl
    by false = refl

-- ---- items by their places

abbrev place : {X : Type 0} → ℕ × X → ℕ
place z = z.0

module _ {X : Type 0} where
  NoneIs-places : (n k : ℕ) (xs : List X) → n < k → NoneIs place n (enumerate_from k xs)
  NoneIs-places n k [] below = tt
  NoneIs-places n k (x ∷ xs) below =
      ((ne_eqb n k (λ is. omega (arith, is, below)), ne_eqb k n (λ is. omega (arith, is, below))), NoneIs-places n (k + 1) xs (omega (arith, below)))

  AreApart-places : (k : ℕ) (xs : List X) → AreApart place (enumerate_from k xs)
  AreApart-places k [] = tt
  AreApart-places k (x ∷ xs) = (NoneIs-places k (k + 1) xs (omega arith), AreApart-places (k + 1) xs)

  picked-places : (p : X → Bool) (k : ℕ) (xs : List X) → picked place (λ z. p z.1) (enumerate_from k xs) ≡ indices_of p k xs
  picked-places p k [] = refl
  picked-places p k (x ∷ xs) = by (picked-places p (k + 1) xs) (p x)
    where
      by : picked place (λ z. p z.1) (enumerate_from (k + 1) xs) ≡ indices_of p (k + 1) xs → (b : Bool) → cond b (k ∷ []) [] ++ picked place (λ z. p z.1) (enumerate_from (k + 1) xs) ≡
          (if b then k ∷ indices_of p (k + 1) xs else indices_of p (k + 1) xs)
      by rest true = ap (λ ys. k ∷ ys) rest
      by rest false = rest

  along-places : (p q : X → Bool) (f : X → ℕ) (k : ℕ) (xs : List X) →
      along (λ z. p z.1) (λ z. q z.1) (λ z. f z.1) (enumerate_from k xs) ≡ along p q f xs
  along-places p q f k [] = refl
  along-places p q f k (x ∷ xs) = ap (λ ys. own_step (p x) (q x) (f x) ++ ys) (along-places p q f (k + 1) xs)

  length-indices : (p : X → Bool) (k : ℕ) (xs : List X) → length (indices_of p k xs) ≡ length (filter p xs)
  length-indices p k [] = refl
  length-indices p k (x ∷ xs) = by (length-indices p (k + 1) xs) (p x)
    where
      by : length (indices_of p (k + 1) xs) ≡ length (filter p xs) → (b : Bool) → length (if b then k ∷ indices_of p (k + 1) xs else indices_of p (k + 1) xs) ≡ length (cond b (x ∷ filter p xs) (filter p xs))
      by rest true = omega (arith, rest)
      by rest false = rest

-- ---- the logical line of a gap

lf_count-both : (c : ℕ) (text : List ℕ) → lf_count (c ∷ text) ≡ lf_count (c ∷ []) + lf_count text
lf_count-both c text = sum_by-append (λ d. cond (d == 10) 1 0) (c ∷ []) text

-- a line of which another follows begins with a character
line-at : (index start : ℕ) (c : ℕ) (first : List ℕ) (lines : List (List ℕ)) →
    (logical_line_from index start start ((c ∷ first) ∷ lines)).index ≡ index
line-at index start c first [] = refl
line-at index start c first (next ∷ lines) =
    ap (λ b. (if b then record { index = index; start = start; text = c ∷ first } else
    logical_line_from (index + 1) (start + length (c ∷ first)) start (next ∷ lines)).index)
    (lt-ltb start (start + length (c ∷ first)) (omega arith))

-- one more character at the front of a line moves its start
line-longer : (index start gap c : ℕ) (first : List ℕ) (lines : List (List ℕ)) →
    (logical_line_from index start gap ((c ∷ first) ∷ lines)).index ≡ (logical_line_from index (start + 1) gap (first ∷ lines)).index
line-longer index start gap c first [] = refl
line-longer index start gap c first (next ∷ lines) =
    let same : start + length (c ∷ first) ≡ start + 1 + length first = omega arith in
    ap (λ n. (if nat_lt gap n then record { index = index; start = start; text = c ∷ first } else
    logical_line_from (index + 1) n gap (next ∷ lines)).index) same ∙ by (nat_lt gap (start + 1 + length first))
  where
    by : (b : Bool) → (if b then record { index = index; start = start; text = c ∷ first } else
        logical_line_from (index + 1) (start + 1 + length first) gap (next ∷ lines)).index ≡
        (if b then record { index = index; start = start + 1; text = first } else
        logical_line_from (index + 1) (start + 1 + length first) gap (next ∷ lines)).index
    by true = refl
    by false = refl

line-front : (index start : ℕ) (text : List ℕ) → (logical_line_from index start start (logical_lines text)).index ≡ index
line-front index start [] = refl
line-front index start (c ∷ text) = by (c == 10) (logical_lines text)
  where
    by : (b : Bool) (lines : List (List ℕ)) →
        (logical_line_from index start start (if b then (c ∷ []) ∷ lines else onto_first c lines)).index ≡ index
    by true lines = line-at index start c [] lines
    by false [] = refl
    by false (first ∷ lines) = line-at index start c first lines

line-index : (index start : ℕ) (front back : List ℕ) →
    (logical_line_from index start (start + length front) (logical_lines (front ++ back))).index ≡ index + lf_count front
line-index index start [] back =
    let none : start + 0 ≡ start = omega arith in
    let zero_lfs : index ≡ index + 0 = omega arith in
    ap (λ n. (logical_line_from index start n (logical_lines back)).index) none ∙ line-front index start back ∙ zero_lfs
line-index index start (c ∷ front) back =
    ap (λ n. (logical_line_from index start n (if c == 10 then (c ∷ []) ∷ logical_lines (front ++ back) else onto_first c (logical_lines (front ++ back)))).index) gap ∙
    by (λ i s. line-index i s front back) (c == 10) refl (logical_lines (front ++ back)) refl ∙ ap (λ n. index + n) (sym (lf_count-both c front))
  where
    gap : start + length (c ∷ front) ≡ start + 1 + length front
    gap = omega arith

    by : ((i s : ℕ) → (logical_line_from i s (s + length front) (logical_lines (front ++ back))).index ≡ i + lf_count front) →
        (b : Bool) → (c == 10) ≡ b → (lines : List (List ℕ)) → logical_lines (front ++ back) ≡ lines →
        (logical_line_from index start (start + 1 + length front) (if b then (c ∷ []) ∷ lines else onto_first c lines)).index ≡
        index + (lf_count (c ∷ []) + lf_count front)
    by later b is [] are = absurd (logical_lines-some (front ++ back) are)
    by later true is (first ∷ lines) are =
        let one : lf_count (c ∷ []) ≡ 1 = ap (λ b. 0 + cond b 1 0) is in
        let rest = later (index + 1) (start + 1) in
        ap (λ b. (if b then record { index = index; start = start; text = c ∷ [] } else
        logical_line_from (index + 1) (start + 1) (start + 1 + length front) (first ∷ lines)).index)
        (le-ltb (start + 1 + length front) (start + 1) (omega arith)) ∙
        ap (λ ls. (logical_line_from (index + 1) (start + 1) (start + 1 + length front) ls).index) (sym are) ∙ rest ∙
        omega (arith, one)
    by later false is (first ∷ lines) are =
        let none : lf_count (c ∷ []) ≡ 0 = ap (λ b. 0 + cond b 1 0) is in
        let rest = later index (start + 1) in
        line-longer index start (start + 1 + length front) c first lines ∙
        ap (λ ls. (logical_line_from index (start + 1) (start + 1 + length front) ls).index) (sym are) ∙ rest ∙ omega (arith, none)

-- THE LOGICAL LINE OF A GAP counts the LFs left of it
line-counts : (text : List ℕ) (gap : ℕ) → gap ≤ length text → (logical_line_of text gap).index ≡ lf_count (take gap text)
line-counts text gap inside =
    let long : length (take gap text) ≡ gap = length-take-le gap text inside in
    let at : gap ≡ 0 + length (take gap text) = omega (arith, long) in
    ap₂ (λ n t. (logical_line_from 0 0 n (logical_lines t)).index) at (sym (take-append-drop gap text)) ∙
    line-index 0 0 (take gap text) (drop gap text) ∙ zero-add (lf_count (take gap text))

-- ---- what two lists of places have in common

common-self : (xs : List ℕ) → common_len xs xs ≡ length xs
common-self [] = refl
common-self (x ∷ xs) = ap (λ b. cond b (1 + common_len xs xs) 0) (eq-eqb x x refl) ∙ ap (λ n. 1 + n) (common-self xs) ∙ omega arith

-- ---- the lines of a change

-- no lines where two lists are the same, and else these
abbrev lines_if : Bool → ℕ → ℕ → Run
lines_if same start end = if same then record { start = 0; end = 0 } else record { start = start; end = end }

module _ (before after : History) (units : UnitDelta) (text_before : text_at after (head before) ≡ text_at before (head before))
    (is : IsChangeBy before after units) where
  abbrev was : Tagged → Bool
  was = is_visible after.revisions (head before)

  abbrev now : Tagged → Bool
  now = is_visible after.revisions (head after)

  abbrev char : Tagged → ℕ
  char tagged = tagged.character

  abbrev placed : List (ℕ × Tagged)
  placed = enumerate_from 0 after.characters

  abbrev shown_before : List ℕ
  shown_before = shown_indices after (head before)

  abbrev shown_after : List ℕ
  shown_after = shown_indices after (head after)

  abbrev text : List ℕ
  text = text_at after (head after)

  steps-are : steps_of units ≡ along (λ z. was z.1) (λ z. now z.1) (λ z. char z.1) placed
  steps-are =
      ap (λ n. steps_from (unit_keeps units) (unit_adds units) 0 n)
      (is.base ∙ ap length (sym text_before) ∙ length-map (filter was after.characters) char) ∙
      steps-along was now char (unit_keeps units) (unit_adds units) 0 after.characters
      (λ g. let none : 0 + g ≡ g = omega arith in ap (unit_adds units) none ∙ is.added g)
      (λ i. let none : 0 + i ≡ i = omega arith in ap (unit_keeps units) none ∙ is.kept i) ∙
      sym (along-places was now char 0 after.characters)

  left-is : kept_left units ≡ common_len shown_before shown_after
  left-is =
      ap (λ s. prefix_len is_kept s) steps-are ∙
      kept-common place (λ z. was z.1) (λ z. now z.1) (λ z. char z.1) placed (AreApart-places 0 after.characters) ∙
      ap₂ (λ xs ys. common_len xs ys) (picked-places was 0 after.characters) (picked-places now 0 after.characters)

  right-is : kept_right units ≡ common_len (reverse shown_before) (reverse shown_after)
  right-is =
      ap (λ s. prefix_len is_kept (reverse s)) steps-are ∙
      ap (λ s. prefix_len is_kept s) (along-reverse (λ (z : ℕ × Tagged). was z.1) (λ z. now z.1) (λ z. char z.1) placed) ∙
      kept-common place (λ z. was z.1) (λ z. now z.1) (λ z. char z.1) (reverse placed)
      (AreApart-reverse place placed (AreApart-places 0 after.characters)) ∙
      ap₂ (λ xs ys. common_len xs ys)
      (sym (picked-reverse place (λ z. was z.1) placed) ∙ ap (λ xs. reverse xs) (picked-places was 0 after.characters))
      (sym (picked-reverse place (λ z. now z.1) placed) ∙ ap (λ xs. reverse xs) (picked-places now 0 after.characters))

  length-shown : length shown_after ≡ length text
  length-shown = length-indices now 0 after.characters ∙ sym (length-map (filter now after.characters) char)

  kept-within : shown_before ≢ shown_after → kept_left units + kept_right units ≤ length text
  kept-within other =
      elim (cases_lt (kept_left units) (length (steps_of units))) [
        | inl fewer ↦
            let makes : made (steps_of units) ≡ length text =
            ap (λ s. made s) steps-are ∙ made-along (λ (z : ℕ × Tagged). was z.1) (λ z. now z.1) (λ z. char z.1) place placed ∙
            ap length (picked-places now 0 after.characters) ∙ length-shown in
            let room : kept_left units + kept_right units ≤ made (steps_of units) = kept-apart (steps_of units) fewer in
            omega (arith, room, makes)
        | inr all ↦
            let most : kept_left units ≤ length (steps_of units) = prefix_len-le-length is_kept (steps_of units) in
            let full : kept_left units ≡ length (steps_of units) = omega (arith, all, most) in
            absurd (other (sym (picked-places was 0 after.characters) ∙
            same-picked place (λ z. was z.1) (λ z. now z.1) (λ z. char z.1) placed
            (subst (λ s. prefix_len is_kept s ≡ length s) steps-are full) ∙ picked-places now 0 after.characters))
      ]

  lines-are : touched_lines units (text_at before (head before)) ≡
      lf_count (slice_range text (common_len shown_before shown_after) (length text - common_len (reverse shown_before) (reverse shown_after))) + 1
  lines-are =
      ap (λ (t : List ℕ). lf_count (slice_range t (kept_left units) (length t - kept_right units)) + 1) is.leads ∙
      ap₂ (λ n m. lf_count (slice_range text n (length text - m)) + 1) left-is right-is

  lines-some : shown_before ≢ shown_after → touched_lines units (text_at before (head before)) ≡
      (touched_between after (head before) (head after)).end - (touched_between after (head before) (head after)).start
  lines-some other =
      let left = common_len shown_before shown_after in
      let right = common_len (reverse shown_before) (reverse shown_after) in
      let within : left + right ≤ length text = subst (λ n. n + right ≤ length text) left-is (subst (λ n. kept_left units + n ≤ length text) right-is (kept-within other)) in
      let first = line-counts text left (omega (arith, within)) in
      let last = line-counts text (length text - right) (omega arith) in
      let middle : left + (length text - right - left) ≡ length text - right = omega (arith, within) in
      let lfs : lf_count (take (length text - right) text) ≡ lf_count (take left text) + lf_count (slice_range text left (length text - right)) =
      ap (λ n. lf_count (take n text)) (sym middle) ∙ ap lf_count (take-add left (length text - right - left) text) ∙
      sum_by-append (λ d. cond (d == 10) 1 0) (take left text) (slice_range text left (length text - right)) in
      let unequal : bytes_eq shown_before shown_after ≡ false =
      elim (bytes_eq shown_before shown_after) as (λ b. bytes_eq shown_before shown_after ≡ b → bytes_eq shown_before shown_after ≡ false) [
        | true ↦ λ yes. absurd (other ((bytes_eq-Decides shown_before shown_after).0 yes))
        | false ↦ λ no. no
      ] refl in
      let touched : (touched_between after (head before) (head after)).end - (touched_between after (head before) (head after)).start ≡
      (logical_line_of text (length text - right)).index + 1 - (logical_line_of text left).index =
      ap (λ (b : Bool). (lines_if b (logical_line_of text left).index ((logical_line_of text (length text - right)).index + 1)).end -
      (lines_if b (logical_line_of text left).index ((logical_line_of text (length text - right)).index + 1)).start) unequal in
      omega (arith, lines-are, lfs, first, last, touched)

  lines-none : shown_before ≡ shown_after → touched_lines units (text_at before (head before)) ≡ 1
  lines-none same =
      let right = common_len (reverse shown_before) (reverse shown_after) in
      let left : common_len shown_before shown_after ≡ length text =
      ap (λ xs. common_len xs shown_after) same ∙ common-self shown_after ∙ length-shown in
      let none : length text - right - common_len shown_before shown_after ≡ 0 = omega (arith, left) in
      lines-are ∙ ap (λ n. lf_count (take n (drop (common_len shown_before shown_after) text)) + 1) none

  pub AreTouched-change : AreTouched (touched_lines units (text_at before (head before))) after (head before) (head after)
  AreTouched-change = record { some = lines-some; none = lines-none }
