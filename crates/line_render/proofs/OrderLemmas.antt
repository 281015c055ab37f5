-- Regions of a selection stand in order, and so two searches find those that touch a piece.
use Rattle.std.proofs.Common.{◌≡◌, ℕ, zero, suc, Bool, true, false, ◌<◌, ◌≤◌, List, [], ◌∷◌, length, get_or, take, drop, refl, ap, ◌∙◌, arith}
use Rattle.std.specs.Prelude.{not, if◌then◌else◌}
use Rattle.std.specs.List.{AllByRecursion, filter}
use Rattle.std.specs.List.Sorted.{IsNonDecreasingBy}
use Rattle.plain_text.specs.declared.selection.Region.{Region}
use Rattle.plain_text.proofs.callers.ListLemmas.{filter_none, filter_all}
use Rattle.selection_core.specs.Selection.{lesser_end, greater_end, AreRightOf, IsSelection}

-- each region begins by the end of the one before it, and the first by this gap
abbrev pub AreFrom : ℕ → List Region → Type 0
AreFrom low [] = Unit {0}
AreFrom low (region ∷ regions) = (low ≤ lesser_end region) × AreFrom (greater_end region) regions

pub ends_rise : (region : Region) → lesser_end region ≤ greater_end region
ends_rise region = omega arith

AreFrom-right : (last : Region) (regions : List Region) → AreRightOf last regions → AreFrom (greater_end last) regions
AreFrom-right last [] right = tt
AreFrom-right last (region ∷ regions) right = (right.0, AreFrom-right region regions right.2)

pub AreFrom-selection : (regions : List Region) → IsSelection regions → AreFrom 0 regions
AreFrom-selection [] is = tt
AreFrom-selection (region ∷ regions) is = (omega arith, AreFrom-right region regions is)

pub AreFrom-lower : (low from : ℕ) (regions : List Region) → low ≤ from → AreFrom from regions → AreFrom low regions
AreFrom-lower low from [] lower are = tt
AreFrom-lower low from (region ∷ regions) lower are = (let le = are.0 in omega arith, are.1)

pub AreFrom-filter : (p : Region → Bool) (low : ℕ) (regions : List Region) → AreFrom low regions → AreFrom low (filter p regions)
AreFrom-filter p low [] are = tt
AreFrom-filter p low (region ∷ regions) are = by (p region) (AreFrom-filter p (greater_end region) regions are.1)
  where
    by : (b : Bool) → AreFrom (greater_end region) (filter p regions) → AreFrom low (if b then region ∷ filter p regions else filter p regions)
    by true rest = (are.0, rest)
    by false rest =
        let le = are.0 in let rise = ends_rise region in
        AreFrom-lower low (greater_end region) (filter p regions) (omega arith) rest

begins_after : (low j : ℕ) (regions : List Region) (d : Region) → AreFrom low regions → j < length regions → low ≤ lesser_end (get_or regions j d)
begins_after low j [] d are inside = absurd (omega arith)
begins_after low zero (region ∷ regions) d are inside = are.0
begins_after low (suc j) (region ∷ regions) d are inside =
    let le = are.0 in let rise = ends_rise region in
    let more = begins_after (greater_end region) j regions d are.1 (omega arith) in omega arith

pub lesser_ends_rise : (low : ℕ) (regions : List Region) → AreFrom low regions → IsNonDecreasingBy lesser_end regions
lesser_ends_rise low [] are i j d le inside = absurd (omega arith)
lesser_ends_rise low (region ∷ regions) are zero zero d le inside = omega arith
lesser_ends_rise low (region ∷ regions) are zero (suc j) d le inside =
    let rise = ends_rise region in
    let more = begins_after (greater_end region) j regions d are.1 (omega arith) in omega arith
lesser_ends_rise low (region ∷ regions) are (suc i) zero d le inside = absurd (omega arith)
lesser_ends_rise low (region ∷ regions) are (suc i) (suc j) d le inside =
    lesser_ends_rise (greater_end region) regions are.1 i j d (omega arith) (omega arith)

pub greater_ends_rise : (low : ℕ) (regions : List Region) → AreFrom low regions → IsNonDecreasingBy greater_end regions
greater_ends_rise low [] are i j d le inside = absurd (omega arith)
greater_ends_rise low (region ∷ regions) are zero zero d le inside = omega arith
greater_ends_rise low (region ∷ regions) are zero (suc j) d le inside =
    let rise = ends_rise (get_or regions j d) in
    let more = begins_after (greater_end region) j regions d are.1 (omega arith) in omega arith
greater_ends_rise low (region ∷ regions) are (suc i) zero d le inside = absurd (omega arith)
greater_ends_rise low (region ∷ regions) are (suc i) (suc j) d le inside =
    greater_ends_rise (greater_end region) regions are.1 i j d (omega arith) (omega arith)

-- ---- what a search finds

all_from : {X : Type 0} (P : X → Type 0) (xs : List X) → ((k : ℕ) (d : X) → k < length xs → P (get_or xs k d)) → AllByRecursion P xs
all_from P [] each = tt
all_from P (x ∷ xs) each = (each 0 x (omega arith), all_from P xs (λ k d inside. each (suc k) d (omega arith)))

-- where the first n pass and no other does, these are the filtered ones
pub filter-front : {X : Type 0} (p : X → Bool) (n : ℕ) (xs : List X) → ((k : ℕ) (d : X) → k < n → k < length xs → p (get_or xs k d) ≡ true) →
    ((k : ℕ) (d : X) → n ≤ k → k < length xs → p (get_or xs k d) ≡ false) → filter p xs ≡ take n xs
filter-front p zero [] front later = refl
filter-front p (suc n) [] front later = refl
filter-front p zero (x ∷ xs) front later = filter_none p (x ∷ xs) (all_from (λ y. p y ≡ false) (x ∷ xs) (λ k d inside. later k d (omega arith) inside))
filter-front p (suc n) (x ∷ xs) front later =
    ap (λ b. if b then x ∷ filter p xs else filter p xs) (front 0 x (omega arith) (omega arith)) ∙
    ap (λ ys. x ∷ ys) (filter-front p n xs (λ k d below inside. front (suc k) d (omega arith) (omega arith)) (λ k d above inside. later (suc k) d (omega arith) (omega arith)))

-- and the others are those that do not pass
pub filter-back : {X : Type 0} (p : X → Bool) (n : ℕ) (xs : List X) → ((k : ℕ) (d : X) → k < n → k < length xs → p (get_or xs k d) ≡ true) →
    ((k : ℕ) (d : X) → n ≤ k → k < length xs → p (get_or xs k d) ≡ false) → filter (λ x. not (p x)) xs ≡ drop n xs
filter-back p zero [] front later = refl
filter-back p (suc n) [] front later = refl
filter-back p zero (x ∷ xs) front later =
    filter_all (λ y. not (p y)) (x ∷ xs) (all_from (λ y. not (p y) ≡ true) (x ∷ xs) (λ k d inside. ap not (later k d (omega arith) inside)))
filter-back p (suc n) (x ∷ xs) front later =
    ap (λ b. if not b then x ∷ filter (λ y. not (p y)) xs else filter (λ y. not (p y)) xs) (front 0 x (omega arith) (omega arith)) ∙
    filter-back p n xs (λ k d below inside. front (suc k) d (omega arith) (omega arith)) (λ k d above inside. later (suc k) d (omega arith) (omega arith))
