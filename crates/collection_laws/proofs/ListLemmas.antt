-- Lemmas on lists from which some items are sifted and the others mapped: what passes a test, blocks, and runs at the end.
use Rattle.std.proofs.Common.{◌≡◌, ℕ, zero, suc, ◌+◌, ◌-◌, ◌<◌, ◌≤◌, Bool, true, false, cond, ◌&&◌, ◌||◌, if◌then◌else◌, ◌==◌, List, [], ◌∷◌, ◌++◌, length, map, take, drop, filter, reverse, refl, ap, ap₂, subst, sym, ◌∙◌, inl, inr, arith}
use Rattle.std.specs.List.{AllByRecursion, list_all, suffix_len, prefix_len}
use Rattle.std.specs.Cmp.{both_ways as same_truth}
use Rattle.std.proofs.lemmas.Bool.{both_ways, and_parts, and_from, or_left, or_right, cases_order, cases_eq, eq-eqb, ne_eqb}
use Rattle.std.proofs.lemmas.List.{reverse-append, length-reverse}
use Rattle.std.proofs.lemmas.List.Folds.{prefix_len-append}
use Rattle.std.proofs.lemmas.List.Sums.{suffix_len-le-length}
use Rattle.plain_text.specs.Numbers.{has, IsRising}
use Rattle.plain_text.specs.Woven.{woven, nth_index}
use Rattle.plain_text.proofs.callers.ListLemmas.{filter-yes, filter-no, nth_index-here, nth_index-yes, nth_index-no}
use Rattle.plain_edits.specs.Change.{block, passes_at}
use Rattle.plain_edits.proofs.callers.ChangeLemmas.{block-here, block-yes, block-first, block-no}

-- both of two facts of each item
pub all_both : {X : Type 0} (P Q : X → Type 0) (xs : List X) → AllByRecursion P xs → AllByRecursion Q xs → AllByRecursion (λ x. P x × Q x) xs
all_both P Q [] ps qs = tt
all_both P Q (x ∷ xs) ps qs = ((ps.0, qs.0), all_both P Q xs ps.1 qs.1)

-- ---- the items up to the one right of a gap

abbrev pub upto : {X : Type 0} → (X → Bool) → ℕ → List X → List X
upto p gap xs = take (nth_index p gap xs) xs

module _ {X : Type 0} (p : X → Bool) (x : X) (xs : List X) where
  upto-here : p x ≡ true → upto p 0 (x ∷ xs) ≡ []
  upto-here passes = ap (λ n. take n (x ∷ xs)) (nth_index-here p x xs passes)

  upto-yes : (g : ℕ) → p x ≡ true → upto p (suc g) (x ∷ xs) ≡ x ∷ upto p g xs
  upto-yes g passes =
      let next : nth_index p (suc g) (x ∷ xs) ≡ suc (nth_index p g xs) = omega (arith, nth_index-yes p g x xs passes) in
      ap (λ n. take n (x ∷ xs)) next

  upto-no : (g : ℕ) → p x ≡ false → upto p g (x ∷ xs) ≡ x ∷ upto p g xs
  upto-no g fails =
      let next : nth_index p g (x ∷ xs) ≡ suc (nth_index p g xs) = omega (arith, nth_index-no p g x xs fails) in
      ap (λ n. take n (x ∷ xs)) next

-- ---- the run of items at the end that pass

abbrev pub run : {X : Type 0} → (X → Bool) → List X → List X
run q xs = drop (length xs - suffix_len q xs) xs

module _ {X : Type 0} (q : X → Bool) where
  suffix_len-cons : (x : X) (xs : List X) → suffix_len q (x ∷ xs) ≡
      cond (suffix_len q xs == length (reverse xs)) (length (reverse xs) + cond (q x) 1 0) (suffix_len q xs)
  suffix_len-cons x xs = ap (prefix_len q) (reverse-append (x ∷ []) xs) ∙ prefix_len-append q (reverse xs) (x ∷ [])

  suffix_len-all : (xs : List X) → list_all q xs ≡ true → suffix_len q xs ≡ length xs
  suffix_len-all [] all = refl
  suffix_len-all (x ∷ xs) all =
      let parts = and_parts (q x) (list_all q xs) all in
      suffix_len-cons x xs ∙
      ap₂ (λ b c. cond b (length (reverse xs) + cond c 1 0) (suffix_len q xs))
      (eq-eqb (suffix_len q xs) (length (reverse xs)) (omega (arith, suffix_len-all xs parts.1, length-reverse xs))) parts.0 ∙
      omega (arith, length-reverse xs)

  -- an item in front of a run that is not all of the list leaves the run as it is
  suffix_len-tail : (x : X) (xs : List X) → list_all q (x ∷ xs) ≡ false → suffix_len q (x ∷ xs) ≡ suffix_len q xs
  suffix_len-tail x xs some =
      suffix_len-cons x xs ∙
      elim (cases_eq (suffix_len q xs) (length (reverse xs))) [
        | inl whole ↦
            ap₂ (λ b c. cond b (length (reverse xs) + cond c 1 0) (suffix_len q xs)) (eq-eqb _ _ whole)
            (first (q x) refl (omega (arith, whole, length-reverse xs))) ∙
            omega (arith, whole)
        | inr part ↦ ap (λ b. cond b (length (reverse xs) + cond (q x) 1 0) (suffix_len q xs)) (ne_eqb _ _ part)
      ]
    where
      all_of : (ys : List X) → suffix_len q ys ≡ length ys → list_all q ys ≡ true
      all_of [] whole = refl
      all_of (y ∷ ys) whole =
          elim (cases_eq (suffix_len q ys) (length (reverse ys))) [
            | inl most ↦
                and_from (q y) (list_all q ys)
                (passes (q y) (sym whole ∙ suffix_len-cons y ys ∙
                ap (λ b. cond b (length (reverse ys) + cond (q y) 1 0) (suffix_len q ys)) (eq-eqb _ _ most)))
                (all_of ys (omega (arith, most, length-reverse ys)))
            | inr less ↦
                absurd (omega (
                  arith,
                  suffix_len-le-length q ys,
                  sym whole ∙ suffix_len-cons y ys ∙
                      ap (λ b. cond b (length (reverse ys) + cond (q y) 1 0) (suffix_len q ys)) (ne_eqb _ _ less),
                ))
          ]
        where
          passes : (b : Bool) → suc (length ys) ≡ length (reverse ys) + cond b 1 0 → b ≡ true
          passes true same = refl
          passes false same = absurd (omega (arith, same, length-reverse ys))

      first : (b : Bool) → q x ≡ b → suffix_len q xs ≡ length xs → q x ≡ false
      first true passes whole = absurd (both_ways _ some (and_from (q x) (list_all q xs) passes (all_of xs whole)))
      first false fails whole = fails

  run-all : (xs : List X) → list_all q xs ≡ true → run q xs ≡ xs
  run-all xs all = let none : length xs - suffix_len q xs ≡ 0 = omega (arith, suffix_len-all xs all) in ap (λ n. drop n xs) none

  run-tail : (x : X) (xs : List X) → list_all q (x ∷ xs) ≡ false → run q (x ∷ xs) ≡ run q xs
  run-tail x xs some =
      let more : suc (length xs) - suffix_len q (x ∷ xs) ≡ suc (length xs - suffix_len q xs) =
      omega (arith, suffix_len-tail x xs some, suffix_len-le-length q xs) in
      ap (λ n. drop n (x ∷ xs)) more

  pub run_passes : (xs : List X) → AllByRecursion (λ x. q x ≡ true) (run q xs)
  run_passes [] = tt
  run_passes (x ∷ xs) = by (list_all q (x ∷ xs)) refl (run_passes xs)
    where
      each : (ys : List X) → list_all q ys ≡ true → AllByRecursion (λ y. q y ≡ true) ys
      each [] all = tt
      each (y ∷ ys) all = let parts = and_parts (q y) (list_all q ys) all in (parts.0, each ys parts.1)

      by : (b : Bool) → list_all q (x ∷ xs) ≡ b → AllByRecursion (λ y. q y ≡ true) (run q xs) → AllByRecursion (λ y. q y ≡ true) (run q (x ∷ xs))
      by true all rest = subst (AllByRecursion (λ y. q y ≡ true)) (sym (run-all (x ∷ xs) all)) (each (x ∷ xs) all)
      by false some rest = subst (AllByRecursion (λ y. q y ≡ true)) (sym (run-tail x xs some)) rest

-- ---- sifting and mapping

-- what is left of a list, mapped
abbrev pub sifted : {X Y : Type 0} → (X → Bool) → (X → Y) → List X → List Y
sifted k s xs = map s (filter k xs)

-- the first item, if there is one, is not sifted out
abbrev pub IsFirst : {X : Type 0} → (X → Bool) → List X → Type 0
IsFirst k [] = Unit {0}
IsFirst k (x ∷ xs) = k x ≡ true

-- no item that is sifted out stands directly right of one that passes
abbrev pub AreApart : {X : Type 0} → (X → Bool) → (X → Bool) → List X → Type 0
AreApart k q [] = Unit {0}
AreApart k q (x ∷ xs) = (q x ≡ true → IsFirst k xs) × AreApart k q xs

-- what passes is not sifted out, and what is not passes as before
pub record Goes {X Y : Type 0} (k : X → Bool) (s : X → Y) (p : X → Bool) (p' : Y → Bool) (x : X) : Type 0 where
  pub stays : p x ≡ true → k x ≡ true
  pub alike : k x ≡ true → p' (s x) ≡ p x

module _ {X Y : Type 0} (k : X → Bool) (s : X → Y) where
  pub sifted-yes : (x : X) (xs : List X) → k x ≡ true → sifted k s (x ∷ xs) ≡ s x ∷ sifted k s xs
  sifted-yes x xs is = ap (map s) (filter-yes k x xs is)

  pub sifted-no : (x : X) (xs : List X) → k x ≡ false → sifted k s (x ∷ xs) ≡ sifted k s xs
  sifted-no x xs is = ap (map s) (filter-no k x xs is)

  module _ (p : X → Bool) (p' : Y → Bool) where
    -- what passes
    pub filter-sifted : (xs : List X) → AllByRecursion (Goes k s p p') xs → filter p' (sifted k s xs) ≡ map s (filter p xs)
    filter-sifted [] each = refl
    filter-sifted (x ∷ xs) each = by (k x) (p x) refl refl (filter-sifted xs each.1)
      where
        by : (a b : Bool) → k x ≡ a → p x ≡ b → filter p' (sifted k s xs) ≡ map s (filter p xs) →
            filter p' (sifted k s (x ∷ xs)) ≡ map s (filter p (x ∷ xs))
        by true true is passes rest =
            ap (filter p') (sifted-yes x xs is) ∙ filter-yes p' (s x) (sifted k s xs) (each.0.alike is ∙ passes) ∙ ap (λ ys. s x ∷ ys) rest ∙
            sym (ap (map s) (filter-yes p x xs passes))
        by true false is fails rest =
            ap (filter p') (sifted-yes x xs is) ∙ filter-no p' (s x) (sifted k s xs) (each.0.alike is ∙ fails) ∙ rest ∙
            sym (ap (map s) (filter-no p x xs fails))
        by false true is passes rest = absurd (both_ways (k x) is (each.0.stays passes))
        by false false is fails rest = ap (filter p') (sifted-no x xs is) ∙ rest ∙ sym (ap (map s) (filter-no p x xs fails))

    pub list_all-sifted : (xs : List X) → AllByRecursion (Goes k s p p') xs → list_all p xs ≡ true → list_all p' (sifted k s xs) ≡ true
    list_all-sifted [] each all = refl
    list_all-sifted (x ∷ xs) each all =
        let parts = and_parts (p x) (list_all p xs) all in
        ap (list_all p') (sifted-yes x xs (each.0.stays parts.0)) ∙
        and_from (p' (s x)) (list_all p' (sifted k s xs)) (each.0.alike (each.0.stays parts.0) ∙ parts.0) (list_all-sifted xs each.1 parts.1)

    -- blocks
    pub block-sifted : (gap : ℕ) (xs : List X) → AllByRecursion (Goes k s p p') xs → block p' gap (sifted k s xs) ≡ sifted k s (block p gap xs)
    block-sifted gap [] each = refl
    block-sifted zero (x ∷ xs) each = by (k x) (p x) refl refl (block-sifted zero xs each.1)
      where
        by : (a b : Bool) → k x ≡ a → p x ≡ b → block p' 0 (sifted k s xs) ≡ sifted k s (block p 0 xs) →
            block p' 0 (sifted k s (x ∷ xs)) ≡ sifted k s (block p 0 (x ∷ xs))
        by true true is passes rest =
            ap (block p' 0) (sifted-yes x xs is) ∙ block-here p' (s x) (sifted k s xs) (each.0.alike is ∙ passes) ∙
            sym (ap (sifted k s) (block-here p x xs passes))
        by true false is fails rest =
            ap (block p' 0) (sifted-yes x xs is) ∙ block-first p' (s x) (sifted k s xs) (each.0.alike is ∙ fails) ∙ ap (λ ys. s x ∷ ys) rest ∙
            sym (sifted-yes x (block p 0 xs) is) ∙ sym (ap (sifted k s) (block-first p x xs fails))
        by false true is passes rest = absurd (both_ways (k x) is (each.0.stays passes))
        by false false is fails rest =
            ap (block p' 0) (sifted-no x xs is) ∙ rest ∙ sym (sifted-no x (block p 0 xs) is) ∙ sym (ap (sifted k s) (block-first p x xs fails))
    block-sifted (suc g) (x ∷ xs) each = by (k x) (p x) refl refl (block-sifted g xs each.1) (block-sifted (suc g) xs each.1)
      where
        by : (a b : Bool) → k x ≡ a → p x ≡ b → block p' g (sifted k s xs) ≡ sifted k s (block p g xs) →
            block p' (suc g) (sifted k s xs) ≡ sifted k s (block p (suc g) xs) →
            block p' (suc g) (sifted k s (x ∷ xs)) ≡ sifted k s (block p (suc g) (x ∷ xs))
        by true true is passes here next =
            ap (block p' (suc g)) (sifted-yes x xs is) ∙ block-yes p' (s x) (sifted k s xs) g (each.0.alike is ∙ passes) ∙ here ∙
            sym (ap (sifted k s) (block-yes p x xs g passes))
        by true false is fails here next =
            ap (block p' (suc g)) (sifted-yes x xs is) ∙ block-no p' (s x) (sifted k s xs) g (each.0.alike is ∙ fails) ∙ next ∙
            sym (ap (sifted k s) (block-no p x xs g fails))
        by false true is passes here next = absurd (both_ways (k x) is (each.0.stays passes))
        by false false is fails here next =
            ap (block p' (suc g)) (sifted-no x xs is) ∙ next ∙ sym (ap (sifted k s) (block-no p x xs g fails))

    -- what stands left of a gap
    pub upto-sifted : (gap : ℕ) (xs : List X) → AllByRecursion (Goes k s p p') xs → upto p' gap (sifted k s xs) ≡ sifted k s (upto p gap xs)
    upto-sifted zero [] each = refl
    upto-sifted (suc g) [] each = refl
    upto-sifted zero (x ∷ xs) each = by (k x) (p x) refl refl (upto-sifted zero xs each.1)
      where
        by : (a b : Bool) → k x ≡ a → p x ≡ b → upto p' 0 (sifted k s xs) ≡ sifted k s (upto p 0 xs) →
            upto p' 0 (sifted k s (x ∷ xs)) ≡ sifted k s (upto p 0 (x ∷ xs))
        by true true is passes rest =
            ap (upto p' 0) (sifted-yes x xs is) ∙ upto-here p' (s x) (sifted k s xs) (each.0.alike is ∙ passes) ∙
            sym (ap (sifted k s) (upto-here p x xs passes))
        by true false is fails rest =
            ap (upto p' 0) (sifted-yes x xs is) ∙ upto-no p' (s x) (sifted k s xs) 0 (each.0.alike is ∙ fails) ∙ ap (λ ys. s x ∷ ys) rest ∙
            sym (sifted-yes x (upto p 0 xs) is) ∙ sym (ap (sifted k s) (upto-no p x xs 0 fails))
        by false true is passes rest = absurd (both_ways (k x) is (each.0.stays passes))
        by false false is fails rest =
            ap (upto p' 0) (sifted-no x xs is) ∙ rest ∙ sym (sifted-no x (upto p 0 xs) is) ∙ sym (ap (sifted k s) (upto-no p x xs 0 fails))
    upto-sifted (suc g) (x ∷ xs) each = by (k x) (p x) refl refl (upto-sifted g xs each.1) (upto-sifted (suc g) xs each.1)
      where
        by : (a b : Bool) → k x ≡ a → p x ≡ b → upto p' g (sifted k s xs) ≡ sifted k s (upto p g xs) →
            upto p' (suc g) (sifted k s xs) ≡ sifted k s (upto p (suc g) xs) →
            upto p' (suc g) (sifted k s (x ∷ xs)) ≡ sifted k s (upto p (suc g) (x ∷ xs))
        by true true is passes here next =
            ap (upto p' (suc g)) (sifted-yes x xs is) ∙ upto-yes p' (s x) (sifted k s xs) g (each.0.alike is ∙ passes) ∙ ap (λ ys. s x ∷ ys) here ∙
            sym (sifted-yes x (upto p g xs) is) ∙ sym (ap (sifted k s) (upto-yes p x xs g passes))
        by true false is fails here next =
            ap (upto p' (suc g)) (sifted-yes x xs is) ∙ upto-no p' (s x) (sifted k s xs) (suc g) (each.0.alike is ∙ fails) ∙ ap (λ ys. s x ∷ ys) next ∙
            sym (sifted-yes x (upto p (suc g) xs) is) ∙ sym (ap (sifted k s) (upto-no p x xs (suc g) fails))
        by false true is passes here next = absurd (both_ways (k x) is (each.0.stays passes))
        by false false is fails here next =
            ap (upto p' (suc g)) (sifted-no x xs is) ∙ next ∙ sym (sifted-no x (upto p (suc g) xs) is) ∙
            sym (ap (sifted k s) (upto-no p x xs (suc g) fails))

    -- runs, where nothing that is sifted out stands directly right of what passes
    apart_all : (x : X) (xs : List X) → p x ≡ true → AreApart k p (x ∷ xs) → AllByRecursion (Goes k s p p') xs →
        list_all p' (sifted k s xs) ≡ true → list_all p xs ≡ true
    apart_all x [] passes apart each all = refl
    apart_all x (y ∷ ys) passes apart each all =
        let is : k y ≡ true = apart.0 passes in
        let parts = and_parts (p' (s y)) (list_all p' (sifted k s ys)) (sym (ap (list_all p') (sifted-yes y ys is)) ∙ all) in
        let next : p y ≡ true = sym (each.0.alike is) ∙ parts.0 in
        and_from (p y) (list_all p ys) next (apart_all y ys next apart.1 each.1 parts.1)

    pub run-sifted : (xs : List X) → AreApart k p xs → AllByRecursion (Goes k s p p') xs → run p' (sifted k s xs) ≡ sifted k s (run p xs)
    run-sifted [] apart each = refl
    run-sifted (x ∷ xs) apart each = by (list_all p (x ∷ xs)) (k x) refl refl (run-sifted xs apart.1 each.1)
      where
        not_all : list_all p (x ∷ xs) ≡ false → k x ≡ true → (b : Bool) → list_all p' (s x ∷ sifted k s xs) ≡ b →
            list_all p' (s x ∷ sifted k s xs) ≡ false
        not_all some is true all =
            let parts = and_parts (p' (s x)) (list_all p' (sifted k s xs)) all in
            let passes : p x ≡ true = sym (each.0.alike is) ∙ parts.0 in
            absurd (both_ways _ some (and_from (p x) (list_all p xs) passes (apart_all x xs passes apart each.1 parts.1)))
        not_all some is false fails = fails

        by : (a b : Bool) → list_all p (x ∷ xs) ≡ a → k x ≡ b → run p' (sifted k s xs) ≡ sifted k s (run p xs) →
            run p' (sifted k s (x ∷ xs)) ≡ sifted k s (run p (x ∷ xs))
        by true b all is rest =
            run-all p' (sifted k s (x ∷ xs)) (list_all-sifted (x ∷ xs) each all) ∙ sym (ap (sifted k s) (run-all p (x ∷ xs) all))
        by false true some is rest =
            ap (run p') (sifted-yes x xs is) ∙ run-tail p' (s x) (sifted k s xs) (not_all some is (list_all p' (s x ∷ sifted k s xs)) refl) ∙ rest ∙
            sym (ap (sifted k s) (run-tail p x xs some))
        by false false some is rest = ap (run p') (sifted-no x xs is) ∙ rest ∙ sym (ap (sifted k s) (run-tail p x xs some))

-- a run where nothing is sifted out
pub run-map : {X Y : Type 0} (s : X → Y) (q : X → Bool) (q' : Y → Bool) (xs : List X) → AllByRecursion (λ x. q' (s x) ≡ q x) xs →
    run q' (map s xs) ≡ map s (run q xs)
run-map s q q' [] each = refl
run-map {X} {Y} s q q' (x ∷ xs) each = by (list_all q (x ∷ xs)) refl (run-map s q q' xs each.1)
  where
    same : (ys : List X) → AllByRecursion (λ y. q' (s y) ≡ q y) ys → list_all q' (map s ys) ≡ list_all q ys
    same [] alike = refl
    same (y ∷ ys) alike = ap₂ (λ a b. a && b) alike.0 (same ys alike.1)

    by : (a : Bool) → list_all q (x ∷ xs) ≡ a → run q' (map s xs) ≡ map s (run q xs) → run q' (map s (x ∷ xs)) ≡ map s (run q (x ∷ xs))
    by true all rest =
        run-all q' (map s (x ∷ xs)) (same (x ∷ xs) each ∙ all) ∙ sym (ap (map s) (run-all q (x ∷ xs) all))
    by false some rest =
        run-tail q' (s x) (map s xs) (same (x ∷ xs) each ∙ some) ∙ rest ∙ sym (ap (map s) (run-tail q x xs some))

pub prefix_len-map : {X Y : Type 0} (s : X → Y) (q : X → Bool) (q' : Y → Bool) (xs : List X) → AllByRecursion (λ x. q' (s x) ≡ q x) xs →
    prefix_len q' (map s xs) ≡ prefix_len q xs
prefix_len-map s q q' [] each = refl
prefix_len-map s q q' (x ∷ xs) each = ap₂ (λ b n. cond b (1 + n) 0) each.0 (prefix_len-map s q q' xs each.1)

-- an item by its index, where nothing is sifted out
pub passes_at-map : {X Y : Type 0} (s : X → Y) (q : X → Bool) (q' : Y → Bool) (n : ℕ) (xs : List X) → AllByRecursion (λ x. q' (s x) ≡ q x) xs →
    passes_at q' n (map s xs) ≡ passes_at q n xs
passes_at-map s q q' n [] each = refl
passes_at-map s q q' zero (x ∷ xs) each = each.0
passes_at-map s q q' (suc n) (x ∷ xs) each = passes_at-map s q q' n xs each.1

pub woven-map : {X Y Z : Type 0} (s : X → Y) (between : ℕ → List Z) (at : ℕ → Y → List Z) (index : ℕ) (xs : List X) →
    woven between at index (map s xs) ≡ woven between (λ i x. at i (s x)) index xs
woven-map s between at index [] = refl
woven-map s between at index (x ∷ xs) = ap (λ ys. between index ++ (at index (s x) ++ ys)) (woven-map s between at (index + 1) xs)

pub map-map-same : {X Y : Type 0} (P : X → Type 0) (s t : X → Y) (xs : List X) → ((x : X) → P x → s x ≡ t x) → AllByRecursion P xs → map s xs ≡ map t xs
map-map-same P s t [] same each = refl
map-map-same P s t (x ∷ xs) same each = ap₂ (λ y ys. y ∷ ys) (same x each.0) (map-map-same P s t xs same each.1)

-- ---- parts of a list

module _ {X : Type 0} (P : X → Type 0) where
  pub AllByRecursion-drop : (n : ℕ) (xs : List X) → AllByRecursion P xs → AllByRecursion P (drop n xs)
  AllByRecursion-drop zero xs all = all
  AllByRecursion-drop (suc n) [] all = all
  AllByRecursion-drop (suc n) (x ∷ xs) all = AllByRecursion-drop n xs all.1

  pub AllByRecursion-block : (p : X → Bool) (gap : ℕ) (xs : List X) → AllByRecursion P xs → AllByRecursion P (block p gap xs)
  AllByRecursion-block p gap [] all = tt
  AllByRecursion-block p zero (x ∷ xs) all = by (p x) (AllByRecursion-block p zero xs all.1)
    where
      by : (b : Bool) → AllByRecursion P (block p 0 xs) → AllByRecursion P (if b then [] else x ∷ block p 0 xs)
      by true rest = tt
      by false rest = (all.0, rest)
  AllByRecursion-block p (suc g) (x ∷ xs) all = AllByRecursion-block p (if p x then g else suc g) xs all.1

  pub AllByRecursion-filter : (p : X → Bool) (xs : List X) → AllByRecursion P xs → AllByRecursion (λ x. P x × (p x ≡ true)) (filter p xs)
  AllByRecursion-filter p [] all = tt
  AllByRecursion-filter p (x ∷ xs) all = by (p x) refl (AllByRecursion-filter p xs all.1)
    where
      by : (b : Bool) → p x ≡ b → AllByRecursion (λ y. P y × (p y ≡ true)) (filter p xs) →
          AllByRecursion (λ y. P y × (p y ≡ true)) (cond b (x ∷ filter p xs) (filter p xs))
      by true passes rest = ((all.0, passes), rest)
      by false fails rest = rest

module _ {X : Type 0} (k q : X → Bool) where
  pub AreApart-take : (n : ℕ) (xs : List X) → AreApart k q xs → AreApart k q (take n xs)
  AreApart-take zero xs apart = tt
  AreApart-take (suc n) [] apart = tt
  AreApart-take (suc n) (x ∷ xs) apart = (λ passes. first n xs (apart.0 passes), AreApart-take n xs apart.1)
    where
      first : (m : ℕ) (ys : List X) → IsFirst k ys → IsFirst k (take m ys)
      first zero ys is = tt
      first (suc m) [] is = tt
      first (suc m) (y ∷ ys) is = is

  pub AreApart-block : (p : X → Bool) (gap : ℕ) (xs : List X) → AreApart k q xs → AreApart k q (block p gap xs)
  AreApart-block p gap [] apart = tt
  AreApart-block p zero (x ∷ xs) apart = by (p x) (AreApart-block p zero xs apart.1)
    where
      first : (ys : List X) → IsFirst k ys → IsFirst k (block p 0 ys)
      first [] is = tt
      first (y ∷ ys) is = at (p y)
        where
          at : (b : Bool) → IsFirst k (if b then [] else y ∷ block p 0 ys)
          at true = tt
          at false = is

      by : (b : Bool) → AreApart k q (block p 0 xs) → AreApart k q (if b then [] else x ∷ block p 0 xs)
      by true rest = tt
      by false rest = (λ passes. first xs (apart.0 passes), rest)
  AreApart-block p (suc g) (x ∷ xs) apart = AreApart-block p (if p x then g else suc g) xs apart.1

-- ---- rising numbers

has-above : (n m : ℕ) (xs : List ℕ) → AllByRecursion (λ k. n < k) xs → m ≤ n → has xs m ≡ false
has-above n m [] above within = refl
has-above n m (x ∷ xs) above within =
    ap₂ (λ a b. a || b) (ne_eqb x m (λ same. omega (arith, same, above.0))) (has-above n m xs above.1 within)

AllByRecursion-higher : (n m : ℕ) (xs : List ℕ) → n ≤ m → AllByRecursion (λ k. m < k) xs → AllByRecursion (λ k. n < k) xs
AllByRecursion-higher n m [] within above = tt
AllByRecursion-higher n m (x ∷ xs) within above = (omega (arith, above.0), AllByRecursion-higher n m xs within above.1)

-- two rising lists of the same numbers are one
pub rising_same : (xs ys : List ℕ) → IsRising xs → IsRising ys → ((n : ℕ) → has xs n ≡ has ys n) → xs ≡ ys
rising_same [] [] up up' same = refl
rising_same [] (y ∷ ys) up up' same = absurd (both_ways (has (y ∷ ys) y) (sym (same y)) (or_left _ _ (eq-eqb y y refl)))
rising_same (x ∷ xs) [] up up' same = absurd (both_ways (has (x ∷ xs) x) (same x) (or_left _ _ (eq-eqb x x refl)))
rising_same (x ∷ xs) (y ∷ ys) up up' same =
    elim (cases_order x y) [
      | inl here ↦ ap₂ (λ n ns. n ∷ ns) here (rising_same xs ys up.1 up'.1 (λ n. rest here n))
      | inr (inl below) ↦
          absurd (both_ways (has (y ∷ ys) x)
          (ap₂ (λ a b. a || b) (ne_eqb y x (λ is. omega (arith, is))) (has-above y x ys up'.0 (omega arith)))
          (sym (same x) ∙ or_left _ _ (eq-eqb x x refl)))
      | inr (inr above) ↦
          absurd (both_ways (has (x ∷ xs) y)
          (ap₂ (λ a b. a || b) (ne_eqb x y (λ is. omega (arith, is))) (has-above x y xs up.0 (omega arith)))
          (same y ∙ or_left _ _ (eq-eqb y y refl)))
    ]
  where
    rest : x ≡ y → (n : ℕ) → has xs n ≡ has ys n
    rest here n =
        elim (cases_eq x n) [
          | inl is ↦ has-above x n xs up.0 (omega arith) ∙ sym (has-above y n ys up'.0 (omega arith))
          | inr other ↦
              ap (λ b. b || has xs n) (sym (ne_eqb x n other)) ∙ same n ∙
              ap (λ b. b || has ys n) (ne_eqb y n (λ is. other (omega (arith, is, here))))
        ]

-- whether all numbers pass depends on which are there
list_all_each : (p : ℕ → Bool) (xs : List ℕ) → ((n : ℕ) → has xs n ≡ true → p n ≡ true) → list_all p xs ≡ true
list_all_each p [] each = refl
list_all_each p (x ∷ xs) each =
    and_from (p x) (list_all p xs) (each x (or_left _ _ (eq-eqb x x refl))) (list_all_each p xs (λ n is. each n (or_right (x == n) (has xs n) is)))

list_all_at : (p : ℕ → Bool) (xs : List ℕ) (n : ℕ) → list_all p xs ≡ true → has xs n ≡ true → p n ≡ true
list_all_at p [] n all is = absurd (both_ways false refl is)
list_all_at p (x ∷ xs) n all is =
    let parts = and_parts (p x) (list_all p xs) all in
    elim (cases_eq x n) [
      | inl here ↦ ap p (sym here) ∙ parts.0
      | inr other ↦ list_all_at p xs n parts.1 (ap (λ b. b || has xs n) (sym (ne_eqb x n other)) ∙ is)
    ]

pub list_all_members : (p : ℕ → Bool) (xs ys : List ℕ) → ((n : ℕ) → has xs n ≡ has ys n) → list_all p xs ≡ list_all p ys
list_all_members p xs ys same =
    same_truth (list_all p xs) (list_all p ys)
    (λ all. list_all_each p ys (λ n is. list_all_at p xs n all (same n ∙ is)))
    (λ all. list_all_each p xs (λ n is. list_all_at p ys n all (sym (same n) ∙ is)))

-- what holds of each number that is there holds of all
pub all_from_has : (P : ℕ → Type 0) (numbers : List ℕ) → ((n : ℕ) → has numbers n ≡ true → P n) → AllByRecursion P numbers
all_from_has P [] each = tt
all_from_has P (m ∷ numbers) each = (
  each m (ap (λ b. b || has numbers m) (eq-eqb m m refl)),
  all_from_has P numbers (λ n is. each n (or_true (m == n) (has numbers n) is)),
)
  where
    or_true : (a b : Bool) → b ≡ true → (a || b) ≡ true
    or_true true b is = refl
    or_true false b is = is
