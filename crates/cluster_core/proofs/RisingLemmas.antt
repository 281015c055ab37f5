-- The boundaries of a line rise, so the first one above an offset is the least, and the last one below it is the greatest.
use Rattle.std.proofs.Common.{◌≡◌, ◌⊎◌, inl, inr, ⊎_elim, ◌↔◌, ℕ, zero, suc, ◌+◌, ◌<◌, ◌≤◌, nat_lt, List, [], ◌∷◌, reverse, length, Some, None, IsNone, IfSome, refl, sym, ap, ap₂, ◌∙◌, arith}
use Rattle.std.specs.Prelude.{Option}
use Rattle.std.specs.List.{Contains, find}
use Rattle.std.specs.Option.{option_or}
use Rattle.std.proofs.lemmas.Bool.{cases_lt, lt-ltb, le-ltb}
use Rattle.std.proofs.lemmas.List.{reverse-append}
use Rattle.std.proofs.lemmas.List.Elements.{Contains-append_right, Contains-append_cases}
use Rattle.std.proofs.lemmas.List.Folds.{find-append}
use Rattle.cluster_core.specs.Boundaries.{clusters_of, ends_from, boundaries_of, next_of, prev_of, IsLeastAbove, IsGreatestBelow, HasNoneAbove, HasNoneBelow}

-- no number is below the one before it, nor the first below `low`
abbrev pub IsRisingFrom : ℕ → List ℕ → Type 0
IsRisingFrom low [] = Unit {0}
IsRisingFrom low (x ∷ xs) = (low ≤ x) × IsRisingFrom x xs

pub ends_from-rises : (at : ℕ) (pieces : List (List ℕ)) → IsRisingFrom at (ends_from at pieces)
ends_from-rises at [] = tt
ends_from-rises at (piece ∷ pieces) = (omega arith, ends_from-rises (at + length piece) pieces)

pub boundaries_of-rises : (line : List ℕ) → IsRisingFrom 0 (boundaries_of line)
boundaries_of-rises line = (omega arith, ends_from-rises 0 (clusters_of line))

first : (x : ℕ) (xs : List ℕ) → Contains (x ∷ xs) x
first x xs = (0, omega arith, refl)

later : (x : ℕ) (xs : List ℕ) (y : ℕ) → Contains xs y → Contains (x ∷ xs) y
later x xs y found = Contains-append_right (x ∷ []) xs y found

pub first_or_later : (x : ℕ) (xs : List ℕ) (y : ℕ) → Contains (x ∷ xs) y → (x ≡ y) ⊎ Contains xs y
first_or_later x xs y found = ⊎_elim (λ here. inl (only here)) (λ past. inr past) (Contains-append_cases (x ∷ []) xs y found)
  where
    only : Contains (x ∷ []) y → x ≡ y
    only (zero, lt, is) = is
    only (suc k, lt, is) = absurd (omega arith)

low-le : (low : ℕ) (xs : List ℕ) → IsRisingFrom low xs → (x : ℕ) → Contains xs x → low ≤ x
low-le low [] rising x (k, lt, is) = absurd (omega arith)
low-le low (y ∷ xs) rising x found =
    let le = rising.0 in
    ⊎_elim (λ here. omega arith) (λ past. let more = low-le y xs rising.1 x past in omega arith) (first_or_later y xs x found)

module _ (at : ℕ) where
  -- from the front, above an offset
  find-least : (low : ℕ) (xs : List ℕ) → IsRisingFrom low xs → (least : ℕ) → Contains xs least → at < least
      → ((other : ℕ) → Contains xs other → at < other → least ≤ other) → find (λ x. nat_lt at x) xs ≡ Some least
  find-least low [] rising least (k, lt, is) above each = absurd (omega arith)
  find-least low (x ∷ xs) rising least found above each =
      ⊎_elim
      (λ passes.
      let le = each x (first x xs) passes in
      let ge : x ≤ least = ⊎_elim (λ here. omega arith) (λ past. low-le x xs rising.1 least past) (first_or_later x xs least found) in
      let same : x ≡ least = omega arith in
      rw (lt-ltb at x passes) (ap Some same))
      (λ fails.
      let past = ⊎_elim (λ here. absurd (omega arith)) (λ past. past) (first_or_later x xs least found) in
      rw (le-ltb at x fails) (find-least x xs rising.1 least past above (λ other is. each other (later x xs other is))))
      (cases_lt at x)

  find-none_above : (xs : List ℕ) → ((other : ℕ) → Contains xs other → other ≤ at) → find (λ x. nat_lt at x) xs ≡ None
  find-none_above [] each = refl
  find-none_above (x ∷ xs) each =
      rw (le-ltb at x (each x (first x xs))) (find-none_above xs (λ other is. each other (later x xs other is)))

  -- from the back, below an offset
  find-push : (x : ℕ) (xs : List ℕ) → find (λ y. nat_lt y at) (reverse (x ∷ xs))
      ≡ option_or (find (λ y. nat_lt y at) (reverse xs)) (find (λ y. nat_lt y at) (x ∷ []))
  find-push x xs = ap (find (λ y. nat_lt y at)) (reverse-append (x ∷ []) xs) ∙ find-append (λ y. nat_lt y at) (reverse xs) (x ∷ [])

  find-alone : (x : ℕ) → x < at → find (λ y. nat_lt y at) (x ∷ []) ≡ Some x
  find-alone x passes = rw (lt-ltb x at passes) refl

  find-other : (x : ℕ) → at ≤ x → find (λ y. nat_lt y at) (x ∷ []) ≡ None
  find-other x fails = rw (le-ltb x at fails) refl

  find-none_below : (xs : List ℕ) → ((other : ℕ) → Contains xs other → at ≤ other) → find (λ y. nat_lt y at) (reverse xs) ≡ None
  find-none_below [] each = refl
  find-none_below (x ∷ xs) each =
      find-push x xs ∙
      ap₂ option_or (find-none_below xs (λ other is. each other (later x xs other is))) (find-other x (each x (first x xs)))

  find-only : (xs : List ℕ) (only : ℕ) → ((other : ℕ) → Contains xs other → other < at → other ≡ only)
      → (find (λ y. nat_lt y at) (reverse xs) ≡ None) ⊎ (find (λ y. nat_lt y at) (reverse xs) ≡ Some only)
  find-only [] only each = inl refl
  find-only (x ∷ xs) only each =
      ⊎_elim
      (λ none. ⊎_elim
      (λ passes. inr (find-push x xs ∙ ap₂ option_or none (find-alone x passes) ∙ ap Some (each x (first x xs) passes)))
      (λ fails. inl (find-push x xs ∙ ap₂ option_or none (find-other x fails))) (cases_lt x at))
      (λ some. inr (find-push x xs ∙ rw some refl))
      (find-only xs only (λ other is. each other (later x xs other is)))

  find-greatest : (low : ℕ) (xs : List ℕ) → IsRisingFrom low xs → (greatest : ℕ) → Contains xs greatest → greatest < at
      → ((other : ℕ) → Contains xs other → other < at → other ≤ greatest) → find (λ y. nat_lt y at) (reverse xs) ≡ Some greatest
  find-greatest low [] rising greatest (k, lt, is) below each = absurd (omega arith)
  find-greatest low (x ∷ xs) rising greatest found below each =
      find-push x xs ∙
      ⊎_elim
      (λ here.
      let passes : x < at = omega arith in
      let same : (other : ℕ) → Contains xs other → other < at → other ≡ greatest =
      λ other is lt. let le = each other (later x xs other is) lt in let ge = low-le x xs rising.1 other is in omega arith in
      ⊎_elim (λ none. ap₂ option_or none (find-alone x passes) ∙ ap Some here) (λ some. rw some refl) (find-only xs greatest same))
      (λ past. rw (find-greatest x xs rising.1 greatest past below (λ other is. each other (later x xs other is))) refl)
      (first_or_later x xs greatest found)

-- what is the least or the greatest is found, and nothing where there is none
pub next_of-found : (line : List ℕ) (at : ℕ) (found : Option ℕ) → IfSome found (IsLeastAbove line at) → IsNone found ↔ HasNoneAbove line at → found ≡ next_of line at
next_of-found line at None is none = sym (find-none_above at (boundaries_of line) (none.0 refl))
next_of-found line at (Some next) is none = sym (find-least at 0 (boundaries_of line) (boundaries_of-rises line) next is.boundary is.above is.least)

pub prev_of-found : (line : List ℕ) (at : ℕ) (found : Option ℕ) → IfSome found (IsGreatestBelow line at) → IsNone found ↔ HasNoneBelow line at → found ≡ prev_of line at
prev_of-found line at None is none = sym (find-none_below at (boundaries_of line) (none.0 refl))
prev_of-found line at (Some prev) is none = sym (find-greatest at 0 (boundaries_of line) (boundaries_of-rises line) prev is.boundary is.below is.greatest)
