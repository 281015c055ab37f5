-- Lemmas on the ends of clusters: they rise, and the last of those that pass a test is the greatest.
use Rattle.std.proofs.Common.{◌≡◌, ◌⊎◌, inl, inr, ⊎_elim, ℕ, zero, suc, ◌+◌, ◌<◌, ◌≤◌, nat_lt, Bool, true, false, cond, List, [], ◌∷◌, ◌++◌, length, Some, refl, sym, ap, subst, ◌∙◌, arith, length-append}
use Rattle.std.specs.Prelude.{Option}
use Rattle.std.specs.List.{AllByRecursion, Contains, concat, filter, last_or}
use Rattle.std.proofs.lemmas.Bool.{cases_lt, cases_Bool, lt-ltb, le-ltb}
use Rattle.std.proofs.lemmas.List.Elements.{Contains-append_right, Contains-append_cases}
use Rattle.cluster_core.specs.Boundaries.{ends_from}

-- no item is empty
abbrev pub NoneEmpty : List (List ℕ) → Type 0
NoneEmpty = AllByRecursion (λ (c : List ℕ). 0 < length c)

-- no number is below the one before it, nor the first below `low`
abbrev pub IsRisingFrom : ℕ → List ℕ → Type 0
IsRisingFrom low [] = Unit {0}
IsRisingFrom low (x ∷ xs) = (low ≤ x) × IsRisingFrom x xs

pub ends_from-rises : (at : ℕ) (pieces : List (List ℕ)) → IsRisingFrom at (ends_from at pieces)
ends_from-rises at [] = tt
ends_from-rises at (piece ∷ pieces) = (omega arith, ends_from-rises (at + length piece) pieces)

pub first_is : (x : ℕ) (xs : List ℕ) → Contains (x ∷ xs) x
first_is x xs = (0, omega arith, refl)

pub later_is : (x : ℕ) (xs : List ℕ) (y : ℕ) → Contains xs y → Contains (x ∷ xs) y
later_is x xs y found = Contains-append_right (x ∷ []) xs y found

pub first_or_later : (x : ℕ) (xs : List ℕ) (y : ℕ) → Contains (x ∷ xs) y → (x ≡ y) ⊎ Contains xs y
first_or_later x xs y found = ⊎_elim (λ here. inl (only here)) (λ past. inr past) (Contains-append_cases (x ∷ []) xs y found)
  where
    only : Contains (x ∷ []) y → x ≡ y
    only (zero, lt, is) = is
    only (suc k, lt, is) = absurd (omega arith)

pub in_none : (x : ℕ) → Contains [] x → ⊥
in_none x (k, lt, is) = omega arith

IsRisingFrom-lower : (low lower : ℕ) (xs : List ℕ) → lower ≤ low → IsRisingFrom low xs → IsRisingFrom lower xs
IsRisingFrom-lower low lower [] le rising = tt
IsRisingFrom-lower low lower (x ∷ xs) le rising = let first = rising.0 in (omega arith, rising.1)

pub low-le : (low : ℕ) (xs : List ℕ) → IsRisingFrom low xs → (x : ℕ) → Contains xs x → low ≤ x
low-le low [] rising x found = absurd (in_none x found)
low-le low (y ∷ xs) rising x found =
    let le = rising.0 in
    ⊎_elim (λ here. omega arith) (λ past. let more = low-le y xs rising.1 x past in omega arith) (first_or_later y xs x found)

-- ---- what passes a test

module _ (p : ℕ → Bool) where
  pub filter-yes : (x : ℕ) (xs : List ℕ) → p x ≡ true → filter p (x ∷ xs) ≡ x ∷ filter p xs
  filter-yes x xs passes = ap (λ b. cond b (x ∷ filter p xs) (filter p xs)) passes

  pub filter-no : (x : ℕ) (xs : List ℕ) → p x ≡ false → filter p (x ∷ xs) ≡ filter p xs
  filter-no x xs fails = ap (λ b. cond b (x ∷ filter p xs) (filter p xs)) fails

  pub IsRisingFrom-filter : (low : ℕ) (xs : List ℕ) → IsRisingFrom low xs → IsRisingFrom low (filter p xs)
  IsRisingFrom-filter low [] rising = tt
  IsRisingFrom-filter low (x ∷ xs) rising =
      let rest = IsRisingFrom-filter x xs rising.1 in
      ⊎_elim (λ passes. subst (IsRisingFrom low) (sym (filter-yes x xs passes)) (rising.0, rest))
      (λ fails. subst (IsRisingFrom low) (sym (filter-no x xs fails)) (IsRisingFrom-lower x low (filter p xs) rising.0 rest))
      (cases_Bool (p x))

  pub in_filter : (xs : List ℕ) (x : ℕ) → Contains xs x → p x ≡ true → Contains (filter p xs) x
  in_filter [] x found passes = absurd (in_none x found)
  in_filter (y ∷ xs) x found passes =
      ⊎_elim
      (λ here. subst (λ ys. Contains ys x) (sym (filter-yes y xs (ap p here ∙ passes))) (subst (Contains (y ∷ filter p xs)) here (first_is y (filter p xs))))
      (λ past. let rest = in_filter xs x past passes in
      ⊎_elim (λ yes. subst (λ ys. Contains ys x) (sym (filter-yes y xs yes)) (later_is y (filter p xs) x rest))
      (λ no. subst (λ ys. Contains ys x) (sym (filter-no y xs no)) rest) (cases_Bool (p y)))
      (first_or_later y xs x found)

  pub from_filter : (xs : List ℕ) (x : ℕ) → Contains (filter p xs) x → Contains xs x × (p x ≡ true)
  from_filter [] x found = absurd (in_none x found)
  from_filter (y ∷ xs) x found = ⊎_elim
      (λ yes. ⊎_elim (λ here. (subst (Contains (y ∷ xs)) here (first_is y xs), ap p (sym here) ∙ yes))
      (λ past. let rest = from_filter xs x past in (later_is y xs x rest.0, rest.1))
      (first_or_later y (filter p xs) x (subst (λ ys. Contains ys x) (filter-yes y xs yes) found)))
      (λ no. let rest = from_filter xs x (subst (λ ys. Contains ys x) (filter-no y xs no) found) in (later_is y xs x rest.0, rest.1))
      (cases_Bool (p y))

-- ---- the last of a list that rises

pub record IsLastOf (xs : List ℕ) (found : Option ℕ) : Type 0 where
  pub last : ℕ
  pub is : found ≡ Some last
  pub inside : Contains xs last
  pub greatest : (other : ℕ) → Contains xs other → other ≤ last

pub last_or-is : (x : ℕ) (xs : List ℕ) → IsRisingFrom x xs → IsLastOf (x ∷ xs) (last_or (Some x) xs)
last_or-is x [] rising = record {
  last = x;
  is = refl;
  inside = first_is x [];
  greatest = λ other found. ⊎_elim (λ here. omega arith) (λ past. absurd (in_none other past)) (first_or_later x [] other found);
}
last_or-is x (y ∷ xs) rising =
    let rest = last_or-is y xs rising.1 in record {
      last = rest.last;
      is = rest.is;
      inside = later_is x (y ∷ xs) rest.last rest.inside;
      greatest = λ other found.
          let le = rising.0 in
          let second = rest.greatest y (first_is y xs) in
          ⊎_elim (λ here. omega arith) (λ past. rest.greatest other past) (first_or_later x (y ∷ xs) other found);
    }

-- ---- the ends past a gap

pub ahead-all : (start at : ℕ) (back : List (List ℕ)) → start ≤ at → NoneEmpty back →
    filter (λ end. nat_lt start end) (ends_from at back) ≡ ends_from at back
ahead-all start at [] le some = refl
ahead-all start at (cluster ∷ back) le some =
    let long = some.0 in
    filter-yes (λ end. nat_lt start end) (at + length cluster) (ends_from (at + length cluster) back) (lt-ltb start (at + length cluster) (omega arith)) ∙
    ap (λ ends. (at + length cluster) ∷ ends) (ahead-all start (at + length cluster) back (omega arith) some.1)

pub ahead-is : (start at : ℕ) (front back : List (List ℕ)) → at + length (concat front) ≡ start → NoneEmpty back →
    filter (λ end. nat_lt start end) (ends_from at (front ++ back)) ≡ ends_from start back
ahead-is start at [] back same some =
    let here : at ≡ start = omega arith in
    ahead-all start at back (omega arith) some ∙ ap (λ n. ends_from n back) here
ahead-is start at (cluster ∷ front) back same some =
    let long = length-append cluster (concat front) in
    filter-no (λ end. nat_lt start end) (at + length cluster) (ends_from (at + length cluster) (front ++ back)) (le-ltb start (at + length cluster) (omega arith)) ∙
    ahead-is start (at + length cluster) front back (omega arith) some

pub end-le : (at : ℕ) (pieces : List (List ℕ)) (end : ℕ) → Contains (ends_from at pieces) end → end ≤ at + length (concat pieces)
end-le at [] end found = absurd (in_none end found)
end-le at (piece ∷ pieces) end found =
    let long = length-append piece (concat pieces) in
    ⊎_elim (λ here. omega arith) (λ past. let le = end-le (at + length piece) pieces end past in omega arith)
    (first_or_later (at + length piece) (ends_from (at + length piece) pieces) end found)

-- the last end is that of all
pub end-last : (at : ℕ) (pieces : List (List ℕ)) → 0 < length (concat pieces) → Contains (ends_from at pieces) (at + length (concat pieces))
end-last at [] some = absurd (omega arith)
end-last at (piece ∷ pieces) some =
    let long = length-append piece (concat pieces) in
    ⊎_elim
    (λ more. let sum : at + length piece + length (concat pieces) ≡ at + length (piece ++ concat pieces) = omega arith in
    subst (Contains (ends_from at (piece ∷ pieces))) sum
    (later_is (at + length piece) (ends_from (at + length piece) pieces) _ (end-last (at + length piece) pieces more)))
    (λ none. let sum : at + length piece ≡ at + length (piece ++ concat pieces) = omega arith in
    subst (Contains (ends_from at (piece ∷ pieces))) sum (first_is (at + length piece) (ends_from (at + length piece) pieces)))
    (cases_lt 0 (length (concat pieces)))
