-- Lemmas on a weave, and on the index of an item by its number among those that pass.
use Rattle.std.proofs.Common.{◌≡◌, ◌≢◌, inl, inr, ℕ, zero, suc, ◌+◌, ◌<◌, ◌≤◌, Bool, true, false, cond, ◌&&◌, if◌then◌else◌, ◌==◌, List, [], ◌∷◌, ◌++◌, length, map, take, get_or, filter, count_by, flat_map, refl, ap, ap₂, sym, subst, ◌∙◌, arith, append-nil}
use Rattle.std.specs.List.{AllByRecursion, range_with_len, list_all}
use Rattle.std.proofs.lemmas.Bool.{cases_eq, cases_order, ne_eqb, eq-eqb}
use Rattle.std.proofs.lemmas.List.{map-append}
use Rattle.std.proofs.lemmas.List.Elements.{filter-append}
use Rattle.std.proofs.lemmas.List.Sums.{sum_by-cons}
use Rattle.plain_text.specs.Woven.{woven, nth_index}

-- what holds of each item of two lists holds of each item of both, one after the other
pub AllByRecursion-append : {X : Type 0} (P : X → Type 0) (xs ys : List X) → AllByRecursion P xs → AllByRecursion P ys → AllByRecursion P (xs ++ ys)
AllByRecursion-append P [] ys front back = back
AllByRecursion-append P (x ∷ xs) ys front back = (front.0, AllByRecursion-append P xs ys front.1 back)

pub AllByRecursion-weaker : {X : Type 0} (P Q : X → Type 0) → ((x : X) → P x → Q x) → (xs : List X) → AllByRecursion P xs → AllByRecursion Q xs
AllByRecursion-weaker P Q weaker [] each = tt
AllByRecursion-weaker P Q weaker (x ∷ xs) each = (weaker x each.0, AllByRecursion-weaker P Q weaker xs each.1)

pub AllByRecursion-map : {X Y : Type 0} (P : Y → Type 0) (f : X → Y) → ((x : X) → P (f x)) → (xs : List X) → AllByRecursion P (map f xs)
AllByRecursion-map P f holds [] = tt
AllByRecursion-map P f holds (x ∷ xs) = (holds x, AllByRecursion-map P f holds xs)

pub AllByRecursion-take : {X : Type 0} (P : X → Type 0) (n : ℕ) (xs : List X) → AllByRecursion P xs → AllByRecursion P (take n xs)
AllByRecursion-take P zero xs each = tt
AllByRecursion-take P (suc n) [] each = tt
AllByRecursion-take P (suc n) (x ∷ xs) each = (each.0, AllByRecursion-take P n xs each.1)

pub AllByRecursion-flat_map : {X Y : Type 0} (P : Y → Type 0) (f : X → List Y) → ((x : X) → AllByRecursion P (f x)) → (xs : List X) → AllByRecursion P (flat_map f xs)
AllByRecursion-flat_map P f holds [] = tt
AllByRecursion-flat_map P f holds (x ∷ xs) =
    AllByRecursion-append P (f x) (flat_map f xs) (holds x) (AllByRecursion-flat_map P f holds xs)

-- what holds of all that is woven in, and of what each item becomes, holds of the weave
pub AllByRecursion-woven : {X Y : Type 0} (P : Y → Type 0) (Q : X → Type 0) (between : ℕ → List Y) (at : ℕ → X → List Y) →
    ((index : ℕ) → AllByRecursion P (between index)) → ((index : ℕ) (x : X) → Q x → AllByRecursion P (at index x)) →
    (index : ℕ) (xs : List X) → AllByRecursion Q xs → AllByRecursion P (woven between at index xs)
AllByRecursion-woven P Q between at here there index [] each = here index
AllByRecursion-woven P Q between at here there index (x ∷ xs) each =
    AllByRecursion-append P (between index) _ (here index)
    (AllByRecursion-append P (at index x) _ (there index x each.0)
    (AllByRecursion-woven P Q between at here there (index + 1) xs each.1))

-- what goes through `++` goes into a weave
pub at-woven : {X Y Z : Type 0} (h : List Y → List Z) → ((xs ys : List Y) → h (xs ++ ys) ≡ h xs ++ h ys) →
    (between : ℕ → List Y) (at : ℕ → X → List Y) (index : ℕ) (xs : List X) →
    h (woven between at index xs) ≡ woven (λ i. h (between i)) (λ i x. h (at i x)) index xs
at-woven h joins between at index [] = refl
at-woven h joins between at index (x ∷ xs) =
    joins (between index) (at index x ++ woven between at (index + 1) xs) ∙
    ap (λ ys. h (between index) ++ ys)
    (joins (at index x) (woven between at (index + 1) xs) ∙
    ap (λ ys. h (at index x) ++ ys) (at-woven h joins between at (index + 1) xs))

pub filter-woven : {X Y : Type 0} (p : Y → Bool) (between : ℕ → List Y) (at : ℕ → X → List Y) (index : ℕ) (xs : List X) →
    filter p (woven between at index xs) ≡ woven (λ i. filter p (between i)) (λ i x. filter p (at i x)) index xs
filter-woven p between at index xs = at-woven (filter p) (filter-append p) between at index xs

-- two weaves that agree at each gap and each item
pub woven_same : {X Y : Type 0} (Q : X → Type 0) (between between' : ℕ → List Y) (at at' : ℕ → X → List Y) →
    ((index : ℕ) → between index ≡ between' index) → ((index : ℕ) (x : X) → Q x → at index x ≡ at' index x) →
    (index : ℕ) (xs : List X) → AllByRecursion Q xs → woven between at index xs ≡ woven between' at' index xs
woven_same Q between between' at at' here there index [] each = here index
woven_same Q between between' at at' here there index (x ∷ xs) each =
    ap₂ (λ ys zs. ys ++ zs) (here index)
    (ap₂ (λ ys zs. ys ++ zs) (there index x each.0)
    (woven_same Q between between' at at' here there (index + 1) xs each.1))

-- a weave of nothing is what the items become
pub woven_nothing : {X Y : Type 0} (h : List X → List Y) → h [] ≡ [] → ((x : X) (xs : List X) → h (x ∷ xs) ≡ h (x ∷ []) ++ h xs) →
    (index : ℕ) (xs : List X) → woven (λ i. []) (λ i x. h (x ∷ [])) index xs ≡ h xs
woven_nothing h none joins index [] = sym none
woven_nothing h none joins index (x ∷ xs) =
    ap (λ ys. h (x ∷ []) ++ ys) (woven_nothing h none joins (index + 1) xs) ∙ sym (joins x xs)

-- two tests that agree at each item
pub filter_same : {X : Type 0} (Q : X → Type 0) (p q : X → Bool) → ((x : X) → Q x → p x ≡ q x) →
    (xs : List X) → AllByRecursion Q xs → filter p xs ≡ filter q xs
filter_same Q p q agree [] each = refl
filter_same Q p q agree (x ∷ xs) each =
    ap₂ (λ b ys. cond b (x ∷ ys) ys) (agree x each.0) (filter_same Q p q agree xs each.1)

pub list_all_same : {X : Type 0} (Q : X → Type 0) (p q : X → Bool) → ((x : X) → Q x → p x ≡ q x) →
    (xs : List X) → AllByRecursion Q xs → list_all p xs ≡ list_all q xs
list_all_same Q p q agree [] each = refl
list_all_same Q p q agree (x ∷ xs) each = ap₂ (λ a b. a && b) (agree x each.0) (list_all_same Q p q agree xs each.1)

pub filter_none : {X : Type 0} (p : X → Bool) (xs : List X) → AllByRecursion (λ x. p x ≡ false) xs → filter p xs ≡ []
filter_none p [] each = refl
filter_none p (x ∷ xs) each = ap (λ b. cond b (x ∷ filter p xs) (filter p xs)) each.0 ∙ filter_none p xs each.1

pub filter_all : {X : Type 0} (p : X → Bool) (xs : List X) → AllByRecursion (λ x. p x ≡ true) xs → filter p xs ≡ xs
filter_all p [] each = refl
filter_all p (x ∷ xs) each = ap₂ (λ b ys. cond b (x ∷ ys) ys) each.0 (filter_all p xs each.1)

module _ {X : Type 0} (p : X → Bool) where
  -- the index of an item, by the first item
  pub nth_index-here : (x : X) (xs : List X) → p x ≡ true → nth_index p 0 (x ∷ xs) ≡ 0
  nth_index-here x xs passes = ap (λ b. if b then 0 else nth_index p 0 xs + 1) passes

  pub nth_index-yes : (n : ℕ) (x : X) (xs : List X) → p x ≡ true → nth_index p (suc n) (x ∷ xs) ≡ nth_index p n xs + 1
  nth_index-yes n x xs passes = ap (λ b. nth_index p (if b then n else suc n) xs + 1) passes

  pub nth_index-no : (n : ℕ) (x : X) (xs : List X) → p x ≡ false → nth_index p n (x ∷ xs) ≡ nth_index p n xs + 1
  nth_index-no zero x xs fails = ap (λ b. if b then 0 else nth_index p 0 xs + 1) fails
  nth_index-no (suc n) x xs fails = ap (λ b. nth_index p (if b then n else suc n) xs + 1) fails

  pub filter-yes : (x : X) (xs : List X) → p x ≡ true → filter p (x ∷ xs) ≡ x ∷ filter p xs
  filter-yes x xs passes = ap (λ b. cond b (x ∷ filter p xs) (filter p xs)) passes

  pub filter-no : (x : X) (xs : List X) → p x ≡ false → filter p (x ∷ xs) ≡ filter p xs
  filter-no x xs fails = ap (λ b. cond b (x ∷ filter p xs) (filter p xs)) fails

  -- the index is at most the list's length
  pub nth_index-le : (n : ℕ) (xs : List X) → nth_index p n xs ≤ length xs
  nth_index-le n [] = omega arith
  nth_index-le zero (x ∷ xs) =
      let rest = nth_index-le zero xs in
      elim (p x) as (λ b. (if b then 0 else nth_index p 0 xs + 1) ≤ suc (length xs)) [ true ↦ omega arith | false ↦ omega arith ]
  nth_index-le (suc n) (x ∷ xs) =
      let rest = nth_index-le (if p x then n else suc n) xs in omega arith

  -- the item with this number passes
  pub nth_index_passes : (n : ℕ) (xs : List X) (d : X) → n < length (filter p xs) → p (get_or xs (nth_index p n xs) d) ≡ true
  nth_index_passes n [] d below = absurd (omega arith)
  nth_index_passes zero (x ∷ xs) d below =
      elim (p x) as (λ b. p x ≡ b → p (get_or (x ∷ xs) (nth_index p 0 (x ∷ xs)) d) ≡ true) [
        | true ↦ λ passes. rw (nth_index-here x xs passes) passes
        | false ↦ λ fails.
            let step : nth_index p 0 (x ∷ xs) ≡ suc (nth_index p 0 xs) = omega (arith, nth_index-no 0 x xs fails) in
            rw step (nth_index_passes 0 xs d (subst (λ ys. 0 < length ys) (filter-no x xs fails) below))
      ] refl
  nth_index_passes (suc n) (x ∷ xs) d below =
      elim (p x) as (λ b. p x ≡ b → p (get_or (x ∷ xs) (nth_index p (suc n) (x ∷ xs)) d) ≡ true) [
        | true ↦ λ passes.
            let step : nth_index p (suc n) (x ∷ xs) ≡ suc (nth_index p n xs) = omega (arith, nth_index-yes n x xs passes) in
            let fewer : suc n < suc (length (filter p xs)) = subst (λ ys. suc n < length ys) (filter-yes x xs passes) below in
            rw step (nth_index_passes n xs d (omega arith))
        | false ↦ λ fails.
            let step : nth_index p (suc n) (x ∷ xs) ≡ suc (nth_index p (suc n) xs) = omega (arith, nth_index-no (suc n) x xs fails) in
            rw step (nth_index_passes (suc n) xs d (subst (λ ys. suc n < length ys) (filter-no x xs fails) below))
      ] refl

  -- indices rise with the numbers
  pub nth_index-lt : (n m : ℕ) (xs : List X) → n < m → n < length (filter p xs) → nth_index p n xs < nth_index p m xs
  nth_index-lt n m [] below within = absurd (omega arith)
  nth_index-lt n zero (x ∷ xs) below within = absurd (omega arith)
  nth_index-lt zero (suc m) (x ∷ xs) below within =
      elim (p x) as (λ b. p x ≡ b → nth_index p 0 (x ∷ xs) < nth_index p (suc m) (x ∷ xs)) [
        | true ↦ λ passes. omega (arith, nth_index-here x xs passes, nth_index-yes m x xs passes)
        | false ↦ λ fails.
            let rest = nth_index-lt 0 (suc m) xs below (subst (λ ys. 0 < length ys) (filter-no x xs fails) within) in
            omega (arith, nth_index-no 0 x xs fails, nth_index-no (suc m) x xs fails)
      ] refl
  nth_index-lt (suc n) (suc m) (x ∷ xs) below within =
      elim (p x) as (λ b. p x ≡ b → nth_index p (suc n) (x ∷ xs) < nth_index p (suc m) (x ∷ xs)) [
        | true ↦ λ passes.
            let fewer : suc n < suc (length (filter p xs)) = subst (λ ys. suc n < length ys) (filter-yes x xs passes) within in
            let rest = nth_index-lt n m xs (omega arith) (omega arith) in
            omega (arith, nth_index-yes n x xs passes, nth_index-yes m x xs passes)
        | false ↦ λ fails.
            let rest = nth_index-lt (suc n) (suc m) xs below (subst (λ ys. suc n < length ys) (filter-no x xs fails) within) in
            omega (arith, nth_index-no (suc n) x xs fails, nth_index-no (suc m) x xs fails)
      ] refl

  pub count_by-yes : (x : X) (xs : List X) → p x ≡ true → count_by p (x ∷ xs) ≡ count_by p xs + 1
  count_by-yes x xs passes =
      let one : ◌≡◌ {A = ℕ} (cond (p x) 1 0) 1 = ap (λ b. cond b 1 0) passes in
      omega (arith, sum_by-cons (λ y. cond (p y) 1 0) x xs)

  pub count_by-no : (x : X) (xs : List X) → p x ≡ false → count_by p (x ∷ xs) ≡ count_by p xs
  count_by-no x xs fails =
      let none : ◌≡◌ {A = ℕ} (cond (p x) 1 0) 0 = ap (λ b. cond b 1 0) fails in
      omega (arith, sum_by-cons (λ y. cond (p y) 1 0) x xs)

  -- two numbers with one index are one
  pub nth_index_only : (n m : ℕ) (xs : List X) → n ≤ length (filter p xs) → m ≤ length (filter p xs) → nth_index p n xs ≡ nth_index p m xs → n ≡ m
  nth_index_only n m xs within inside same =
      elim (cases_order n m) [
        | inl is ↦ is
        | inr (inl below) ↦ absurd (omega (arith, nth_index-lt n m xs below (omega arith)))
        | inr (inr above) ↦ absurd (omega (arith, nth_index-lt m n xs above (omega arith)))
      ]

  -- past those that pass stands the list's end
  pub nth_index_past : (n : ℕ) (xs : List X) → length (filter p xs) ≤ n → nth_index p n xs ≡ length xs
  nth_index_past n [] past = refl
  nth_index_past zero (x ∷ xs) past =
      elim (p x) as (λ b. p x ≡ b → nth_index p 0 (x ∷ xs) ≡ suc (length xs)) [
        | true ↦ λ passes. absurd (omega (arith, ap length (filter-yes x xs passes)))
        | false ↦ λ fails.
            let rest = nth_index_past 0 xs (omega (arith, ap length (filter-no x xs fails))) in omega (arith, nth_index-no 0 x xs fails)
      ] refl
  nth_index_past (suc n) (x ∷ xs) past =
      elim (p x) as (λ b. p x ≡ b → nth_index p (suc n) (x ∷ xs) ≡ suc (length xs)) [
        | true ↦ λ passes.
            let rest = nth_index_past n xs (omega (arith, ap length (filter-yes x xs passes))) in omega (arith, nth_index-yes n x xs passes)
        | false ↦ λ fails.
            let rest = nth_index_past (suc n) xs (omega (arith, ap length (filter-no x xs fails))) in
            omega (arith, nth_index-no (suc n) x xs fails)
      ] refl

  -- left of the index of an item stand as many that pass as its number says
  pub count_by-take-nth_index : (n : ℕ) (xs : List X) → n ≤ length (filter p xs) → count_by p (take (nth_index p n xs) xs) ≡ n
  count_by-take-nth_index n [] within = omega arith
  count_by-take-nth_index zero (x ∷ xs) within =
      elim (p x) as (λ b. p x ≡ b → count_by p (take (nth_index p 0 (x ∷ xs)) (x ∷ xs)) ≡ 0) [
        | true ↦ λ passes. rw (nth_index-here x xs passes) refl
        | false ↦ λ fails.
            let step : nth_index p 0 (x ∷ xs) ≡ suc (nth_index p 0 xs) = omega (arith, nth_index-no 0 x xs fails) in
            rw step (count_by-no x (take (nth_index p 0 xs) xs) fails ∙ count_by-take-nth_index 0 xs (omega arith))
      ] refl
  count_by-take-nth_index (suc n) (x ∷ xs) within =
      elim (p x) as (λ b. p x ≡ b → count_by p (take (nth_index p (suc n) (x ∷ xs)) (x ∷ xs)) ≡ suc n) [
        | true ↦ λ passes.
            let step : nth_index p (suc n) (x ∷ xs) ≡ suc (nth_index p n xs) = omega (arith, nth_index-yes n x xs passes) in
            let rest = count_by-take-nth_index n xs (omega (arith, ap length (filter-yes x xs passes))) in
            rw step (omega (arith, count_by-yes x (take (nth_index p n xs) xs) passes))
        | false ↦ λ fails.
            let step : nth_index p (suc n) (x ∷ xs) ≡ suc (nth_index p (suc n) xs) = omega (arith, nth_index-no (suc n) x xs fails) in
            rw step (count_by-no x (take (nth_index p (suc n) xs) xs) fails ∙
            count_by-take-nth_index (suc n) xs (omega (arith, ap length (filter-no x xs fails))))
      ] refl

  -- the index of an item that passes, by how many that pass stand left of it
  pub nth_index-count_by : (i : ℕ) (xs : List X) (d : X) → i < length xs → p (get_or xs i d) ≡ true → nth_index p (count_by p (take i xs)) xs ≡ i
  nth_index-count_by i [] d within passes = absurd (omega arith)
  nth_index-count_by zero (x ∷ xs) d within passes = nth_index-here x xs passes
  nth_index-count_by (suc i) (x ∷ xs) d within passes =
      let rest = nth_index-count_by i xs d (omega arith) passes in
      let left = count_by p (take i xs) in
      elim (p x) as (λ b. p x ≡ b → nth_index p (count_by p (x ∷ take i xs)) (x ∷ xs) ≡ suc i) [
        | true ↦ λ first.
            let more : count_by p (x ∷ take i xs) ≡ suc left = omega (arith, count_by-yes x (take i xs) first) in
            rw more (omega (arith, nth_index-yes left x xs first))
        | false ↦ λ other. rw (count_by-no x (take i xs) other) (omega (arith, nth_index-no left x xs other))
      ] refl

-- what the gaps between those that pass get, and whether each of them is kept, counted from an index and a number on
pub record IsWovenAlike {X Y : Type 0} (p : X → Bool) (between added : ℕ → List Y) (keeps kept : ℕ → Bool) (index number : ℕ) (xs : List X) : Type 0 where
  pub gaps : (n i m : ℕ) → n ≤ length (filter p xs) → i ≡ index + nth_index p n xs → m ≡ number + n → between i ≡ added m
  pub others : (i : ℕ) → index ≤ i → ((n : ℕ) → n ≤ length (filter p xs) → index + nth_index p n xs ≢ i) → between i ≡ []
  pub items : (n i m : ℕ) → n ≤ length xs → i ≡ index + n → m ≡ number + count_by p (take n xs) → keeps i ≡ kept m

IsWovenAlike-yes : {X Y : Type 0} (p : X → Bool) (between added : ℕ → List Y) (keeps kept : ℕ → Bool) (index number : ℕ) (x : X) (xs : List X) →
    p x ≡ true → IsWovenAlike p between added keeps kept index number (x ∷ xs) →
    IsWovenAlike p between added keeps kept (index + 1) (number + 1) xs
IsWovenAlike-yes p between added keeps kept index number x xs passes alike = record {
  gaps = λ n i m within at_index at_number.
      alike.gaps (suc n) i m (subst (λ ys. suc n ≤ length ys) (sym (filter-yes p x xs passes)) (omega arith))
      (omega (arith, nth_index-yes p n x xs passes)) (omega arith);
  others = λ i from none. alike.others i (omega arith) (none_first i from none);
  items = λ n i m within at_index at_number.
      alike.items (suc n) i m (omega arith) (omega arith) (omega (arith, count_by-yes p x (take n xs) passes));
}
  where
    none_first : (i : ℕ) → index + 1 ≤ i → ((n : ℕ) → n ≤ length (filter p xs) → index + 1 + nth_index p n xs ≢ i) →
        (n : ℕ) → n ≤ length (filter p (x ∷ xs)) → index + nth_index p n (x ∷ xs) ≢ i
    none_first i from none zero within = λ hit. omega (arith, nth_index-here p x xs passes)
    none_first i from none (suc n) within =
        let fewer : suc n ≤ suc (length (filter p xs)) = subst (λ ys. suc n ≤ length ys) (filter-yes p x xs passes) within in
        λ hit. none n (omega arith) (omega (arith, nth_index-yes p n x xs passes))

IsWovenAlike-no : {X Y : Type 0} (p : X → Bool) (between added : ℕ → List Y) (keeps kept : ℕ → Bool) (index number : ℕ) (x : X) (xs : List X) →
    p x ≡ false → IsWovenAlike p between added keeps kept index number (x ∷ xs) →
    IsWovenAlike p between added keeps kept (index + 1) number xs
IsWovenAlike-no p between added keeps kept index number x xs fails alike = record {
  gaps = λ n i m within at_index at_number.
      alike.gaps n i m (subst (λ ys. n ≤ length ys) (sym (filter-no p x xs fails)) within)
      (omega (arith, nth_index-no p n x xs fails)) at_number;
  others = λ i from none. alike.others i (omega arith) (λ n within hit.
      none n (subst (λ ys. n ≤ length ys) (filter-no p x xs fails) within) (omega (arith, nth_index-no p n x xs fails)));
  items = λ n i m within at_index at_number.
      alike.items (suc n) i m (omega arith) (omega arith) (omega (arith, count_by-no p x (take n xs) fails));
}

-- a weave that adds at the indices of the items that pass, and shows of these what is kept, is a weave of them alone
pub woven-filter : {X Y : Type 0} (p : X → Bool) (f : X → Y) (between added : ℕ → List Y) (keeps kept : ℕ → Bool) (index number : ℕ) (xs : List X) →
    IsWovenAlike p between added keeps kept index number xs →
    woven between (λ i x. if p x && keeps i then f x ∷ [] else []) index xs ≡
    woven added (λ i y. if kept i then y ∷ [] else []) number (map f (filter p xs))
woven-filter p f between added keeps kept index number [] alike = alike.gaps 0 index number (omega arith) (omega arith) (omega arith)
woven-filter {X} {Y} p f between added keeps kept index number (x ∷ xs) alike =
    elim (p x) as (λ b. p x ≡ b → between index ++ ((if b && keeps index then f x ∷ [] else []) ++ rest) ≡
    woven added at number (map f (cond b (x ∷ filter p xs) (filter p xs)))) [
      | true ↦ λ passes.
          ap₂ (λ ys zs. ys ++ zs) (alike.gaps 0 index number (omega arith) (omega (arith, nth_index-here p x xs passes)) (omega arith))
          (ap₂ (λ b zs. (if b then f x ∷ [] else []) ++ zs) (alike.items 0 index number (omega arith) (omega arith) (omega arith))
          (woven-filter p f between added keeps kept (index + 1) (number + 1) xs
          (IsWovenAlike-yes p between added keeps kept index number x xs passes alike)))
      | false ↦ λ fails.
          ap₂ (λ ys zs. ys ++ zs) (alike.others index (omega arith) (λ n within hit. omega (arith, nth_index-no p n x xs fails)))
          (woven-filter p f between added keeps kept (index + 1) number xs
          (IsWovenAlike-no p between added keeps kept index number x xs fails alike))
    ] refl
  where
    at : ℕ → Y → List Y
    at i y = if kept i then y ∷ [] else []

    rest : List Y
    rest = woven between (λ i z. if p z && keeps i then f z ∷ [] else []) (index + 1) xs

-- of the texts that are chosen by an index, none or the one that has it
pub flat_map_none : {Y : Type 0} (index_of : ℕ → ℕ) (texts : ℕ → List Y) (i from count : ℕ) →
    ((n : ℕ) → from ≤ n → n < from + count → index_of n ≢ i) →
    flat_map (λ n. if index_of n == i then texts n else []) (range_with_len from count) ≡ []
flat_map_none index_of texts i from zero none = refl
flat_map_none index_of texts i from (suc count) none =
    ap₂ (λ b ys. (if b then texts from else []) ++ ys) (ne_eqb (index_of from) i (none from (omega arith) (omega arith)))
    (flat_map_none index_of texts i (from + 1) count (λ n low high. none n (omega arith) (omega arith)))

pub flat_map_one : {Y : Type 0} (index_of : ℕ → ℕ) (texts : ℕ → List Y) (i from count k : ℕ) → from ≤ k → k < from + count → index_of k ≡ i →
    ((n : ℕ) → from ≤ n → n < from + count → index_of n ≡ i → n ≡ k) →
    flat_map (λ n. if index_of n == i then texts n else []) (range_with_len from count) ≡ texts k
flat_map_one index_of texts i from zero k low high is only = absurd (omega arith)
flat_map_one index_of texts i from (suc count) k low high is only =
    elim (cases_eq from k) [
      | inl here ↦
          ap₂ (λ b ys. (if b then texts from else []) ++ ys) (eq-eqb (index_of from) i (ap index_of here ∙ is))
          (flat_map_none index_of texts i (from + 1) count
          (λ n past below hit. let same = only n (omega arith) (omega arith) hit in omega arith)) ∙
          append-nil (texts from) ∙ ap texts here
      | inr other ↦
          ap₂ (λ b ys. (if b then texts from else []) ++ ys)
          (ne_eqb (index_of from) i (λ hit. other (only from (omega arith) (omega arith) hit)))
          (let differs : from ≢ k = other in
          flat_map_one index_of texts i (from + 1) count k (omega arith) (omega arith) is
          (λ n past below hit. only n (omega arith) (omega arith) hit))
    ]

pub flat_map_same : {X Y : Type 0} (f g : X → List Y) → ((x : X) → f x ≡ g x) → (xs : List X) → flat_map f xs ≡ flat_map g xs
flat_map_same f g same [] = refl
flat_map_same f g same (x ∷ xs) = ap₂ (λ ys zs. ys ++ zs) (same x) (flat_map_same f g same xs)

pub map-flat_map : {X Y Z : Type 0} (h : Y → Z) (f : X → List Y) (xs : List X) → map h (flat_map f xs) ≡ flat_map (λ x. map h (f x)) xs
map-flat_map h f [] = refl
map-flat_map h f (x ∷ xs) = map-append h (f x) (flat_map f xs) ∙ ap (λ ys. map h (f x) ++ ys) (map-flat_map h f xs)
