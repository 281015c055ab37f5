-- Lemmas on lines that stay.
use Rattle.std.proofs.Common.{◌≡◌, ◌⊎◌, inl, inr, ℕ, ◌+◌, ◌-◌, ◌<◌, ◌≤◌, ◌^◌, nat_le, nat_lt, ◌&&◌, Bool, cond, List, [], ◌∷◌, length, drop, Some, None, refl, sym, ap, ap₂, ◌∙◌, arith}
use Rattle.std.specs.Prelude.{Option, slice_get}
use Rattle.std.proofs.lemmas.Bool.{cases_lt, le-leb, lt-leb, lt-ltb, le-ltb}
use Rattle.std.proofs.lemmas.List.{length-drop}
use Rattle.line_cache.specs.Stays.{AreStays, AreStaysFrom, if_true, partner_by}
use Rattle.line_cache.specs.Ahead.{FitsNumbers, moved_by}
use Rattle.line_cache.specs.declared.stay.Stay.{Stay}

AreStaysFrom-lower : (old new low least count total : ℕ) (stays : List Stay) → low ≤ old → least ≤ new → AreStaysFrom old new count total stays →
    AreStaysFrom low least count total stays
AreStaysFrom-lower old new low least count total [] le below are = let first = are.0 in let second = are.1 in (omega arith, omega arith)
AreStaysFrom-lower old new low least count total (stay ∷ stays) le below are =
    let first = are.0 in let second = are.1 in (omega arith, omega arith, are.2)

pub AreStaysFrom-within : (old new count total : ℕ) (stays : List Stay) → AreStaysFrom old new count total stays → (old ≤ count) × (new ≤ total)
AreStaysFrom-within old new count total [] are = are
AreStaysFrom-within old new count total (stay ∷ stays) are =
    let rest = AreStaysFrom-within (stay.old + stay.n) (stay.new + stay.n) count total stays are.2 in
    let first = are.0 in let second = are.1 in let last = rest.0 in let end = rest.1 in (omega arith, omega arith)

-- the runs behind the first one, and where that one ends
pub stays-later : (count total : ℕ) (stay : Stay) (stays : List Stay) → AreStays count total (stay ∷ stays) → AreStays count total stays
stays-later count total stay stays are =
    AreStaysFrom-lower (stay.old + stay.n) (stay.new + stay.n) 0 0 count total stays (omega arith) (omega arith) are.2

pub stay-within : (count total : ℕ) (stay : Stay) (stays : List Stay) → AreStays count total (stay ∷ stays) →
    (stay.old + stay.n ≤ count) × (stay.new + stay.n ≤ total)
stay-within count total stay stays are = AreStaysFrom-within (stay.old + stay.n) (stay.new + stay.n) count total stays are.2

FitsNumbers-from : (old new count total : ℕ) (stays : List Stay) → total < 2 ^ 64 → AreStaysFrom old new count total stays → FitsNumbers stays
FitsNumbers-from old new count total [] bound are = tt
FitsNumbers-from old new count total (stay ∷ stays) bound are =
    let end = (AreStaysFrom-within (stay.old + stay.n) (stay.new + stay.n) count total stays are.2).1 in
    (omega arith, FitsNumbers-from (stay.old + stay.n) (stay.new + stay.n) count total stays bound are.2)

pub stays-fit : (count total : ℕ) (stays : List Stay) → total < 2 ^ 64 → AreStays count total stays → FitsNumbers stays
stays-fit count total stays bound are = FitsNumbers-from 0 0 count total stays bound are

-- ---- the partner of a line

is_in : Stay → ℕ → Bool
is_in stay index = nat_le stay.new index && nat_lt index (stay.new + stay.n)

-- a line is not in a run that it stands before or behind
pub partner-before : (stay : Stay) (stays : List Stay) (index : ℕ) → index < stay.new → partner_by (stay ∷ stays) index ≡ partner_by stays index
partner-before stay stays index lt =
    ap (λ b. cond (b && nat_lt index (stay.new + stay.n)) (Some (stay.old + (index - stay.new), stay.same)) (partner_by stays index)) (lt-leb stay.new index lt)

pub partner-past : (stay : Stay) (stays : List Stay) (index : ℕ) → stay.new + stay.n ≤ index → partner_by (stay ∷ stays) index ≡ partner_by stays index
partner-past stay stays index le =
    ap₂ (λ a b. cond (a && b) (Some (stay.old + (index - stay.new), stay.same)) (partner_by stays index))
    (le-leb stay.new index (omega arith)) (le-ltb index (stay.new + stay.n) le)

pub partner-in : (stay : Stay) (stays : List Stay) (index : ℕ) → stay.new ≤ index → index < stay.new + stay.n →
    partner_by (stay ∷ stays) index ≡ Some (stay.old + (index - stay.new), stay.same)
partner-in stay stays index le lt =
    ap₂ (λ a b. cond (a && b) (Some (stay.old + (index - stay.new), stay.same)) (partner_by stays index)) (le-leb stay.new index le) (lt-ltb index (stay.new + stay.n) lt)

-- a line before all runs has none
pub partner-none : (old new count total : ℕ) (stays : List Stay) (index : ℕ) → AreStaysFrom old new count total stays → index < new → partner_by stays index ≡ None
partner-none old new count total [] index are lt = refl
partner-none old new count total (stay ∷ stays) index are lt =
    let first = are.1 in
    partner-before stay stays index (omega arith) ∙
    partner-none (stay.old + stay.n) (stay.new + stay.n) count total stays index are.2 (omega arith)

-- what is known of the first lines, where the first run is not passed
pub partners-ahead : (truths : List Bool) (count total : ℕ) (stay : Stay) (stays : List Stay) (at n : ℕ) (partner : Option (ℕ × Bool)) →
    AreStays count total (stay ∷ stays) → (at < stay.new → (partner ≡ None) × (at + n ≤ stay.new)) →
    (stay.new ≤ at → (at + n ≤ stay.new + stay.n)
    × ((k : ℕ) → k < n → if_true truths (Some (stay.old + (at - stay.new) + k, stay.same)) ≡ moved_by k partner)) →
    (k : ℕ) → k < n → if_true truths (partner_by (stay ∷ stays) (at + k)) ≡ moved_by k partner
partners-ahead truths count total stay stays at n partner are before inside k lt = by (cases_lt at stay.new)
  where
    by : (at < stay.new) ⊎ (stay.new ≤ at) → if_true truths (partner_by (stay ∷ stays) (at + k)) ≡ moved_by k partner
    by (inl less) =
        let found = before less in
        let end = found.1 in
        ap (if_true truths) (partner-before stay stays (at + k) (omega arith) ∙
        partner-none (stay.old + stay.n) (stay.new + stay.n) count total stays (at + k) are.2 (omega arith)) ∙
        sym (ap (moved_by k) found.0)
    by (inr le) =
        let found = inside le in
        let end = found.0 in
        let old : stay.old + (at + k - stay.new) ≡ stay.old + (at - stay.new) + k = omega arith in
        ap (if_true truths) (partner-in stay stays (at + k) (omega arith) (omega arith) ∙ ap (λ m. Some (m, stay.same)) old) ∙
        found.1 k lt

-- the first run of some
pub stays-first : (stays : List Stay) (stay : Stay) → slice_get stays 0 ≡ Some stay → (rest : List Stay) × (stays ≡ stay ∷ rest)
stays-first [] stay is = let broken = is in cc
stays-first (first ∷ rest) stay is = let own : first ≡ stay = cc in (rest, ap (λ x. x ∷ rest) own)

pub drop-some : (xs : List Bool) (n : ℕ) → n < length xs → drop n xs ≡ [] → ⊥
drop-some xs n lt none = let long = ap length none in omega (arith, length-drop n xs)
