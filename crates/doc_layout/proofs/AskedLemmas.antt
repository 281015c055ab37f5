-- Whether all lines of a run are asked for.
use Rattle.std.proofs.Common.{◌≡◌, ℕ, zero, suc, ◌+◌, ◌<◌, ◌≤◌, Bool, true, false, refl, ap, ap₂, sym, ◌∙◌, arith, ◌⊎◌, inl, inr}
use Rattle.std.specs.Prelude.{◌&&◌, ◌||◌, not, min, nat_lt, nat_le}
use Rattle.std.specs.List.{list_all, range_with_len}
use Rattle.std.proofs.lemmas.Bool.{and_left, and_right, cases_lt, le-leb, le-ltb, leb-true, lt-leb, lt-ltb, ltb-true, or_right}
use Rattle.plain_text.specs.declared.run.Run.{Run}
use Rattle.plain_screen.specs.Plan.{is_within}
use Rattle.doc_layout.specs.declared.asked.Asked.{Asked}
use Rattle.doc_layout.specs.Told.{is_asked, is_covered}
use Rattle.doc_layout.specs.Inner.{IsStretch, is_run_covered}

-- ---- lines of one run

pub in-run : (run : Run) (index : ℕ) → run.start ≤ index → index < run.end → is_within run index ≡ true
in-run run index low high = ap₂ (λ a b. a && b) (le-leb run.start index low) (lt-ltb index run.end high)

pub before-run : (run : Run) (index : ℕ) → index < run.start → is_within run index ≡ false
before-run run index less = ap (λ b. b && nat_lt index run.end) (lt-leb run.start index less)

pub past-run : (run : Run) (index : ℕ) → run.end ≤ index → is_within run index ≡ false
past-run run index more = and_right (nat_le run.start index) (nat_lt index run.end) (le-ltb index run.end more)

both-true : (a b : Bool) → (a && b) ≡ true → (a ≡ true) × (b ≡ true)
both-true true b is = (refl, is)
both-true false b is = absurd cc

pub ends-of : (run : Run) (index : ℕ) → is_within run index ≡ true → (run.start ≤ index) × (index < run.end)
ends-of run index is =
    let parts = both-true (nat_le run.start index) (nat_lt index run.end) is in
    (leb-true run.start index parts.0, ltb-true index run.end parts.1)

-- ---- whether all of them are asked for

all-same : (p q : ℕ → Bool) (from count : ℕ) → ((k : ℕ) → k < from + count → p k ≡ q k) →
    list_all p (range_with_len from count) ≡ list_all q (range_with_len from count)
all-same p q from zero same = refl
all-same p q from (suc count) same =
    ap₂ (λ a b. a && b) (same from (omega arith)) (all-same p q (from + 1) count (λ k less. same k (omega (arith, less))))

all-true : (p : ℕ → Bool) (from count : ℕ) → ((k : ℕ) → from ≤ k → k < from + count → p k ≡ true) → list_all p (range_with_len from count) ≡ true
all-true p from zero each = refl
all-true p from (suc count) each =
    ap₂ (λ a b. a && b) (each from (omega arith) (omega arith)) (all-true p (from + 1) count (λ k low high. each k (omega (arith, low)) (omega (arith, high))))

all-false : (p : ℕ → Bool) (from count at : ℕ) → from ≤ at → at < from + count → p at ≡ false → list_all p (range_with_len from count) ≡ false
all-false p from zero at low high is = absurd (omega (arith, low, high))
all-false p from (suc count) at low high is = elim (cases_lt from at) [
  | inl less ↦ and_right (p from) _ (all-false p (from + 1) count at (omega (arith, less)) (omega (arith, high)) is)
  | inr more ↦ let same : from ≡ at = omega (arith, low, more) in and_left (p from) (list_all p (range_with_len (from + 1) count)) (ap p same ∙ is)
]

all-each : (p : ℕ → Bool) (from count at : ℕ) → list_all p (range_with_len from count) ≡ true → from ≤ at → at < from + count → p at ≡ true
all-each p from count at all low high = by (p at) refl
  where
    by : (b : Bool) → p at ≡ b → p at ≡ true
    by true is = is
    by false is = absurd (let none = sym (all-false p from count at low high is) ∙ all in cc)

-- all of the window and of the request
all-both : (p q r : ℕ → Bool) (from count : ℕ) →
    (list_all (λ k. not (p k) || r k) (range_with_len from count) && list_all (λ k. not (q k) || r k) (range_with_len from count)) ≡
    list_all (λ k. not (p k || q k) || r k) (range_with_len from count)
all-both p q r from zero = refl
all-both p q r from (suc count) =
    mixed (not (p from) || r from) (list_all (λ k. not (p k) || r k) (range_with_len (from + 1) count)) (not (q from) || r from)
    (list_all (λ k. not (q k) || r k) (range_with_len (from + 1) count)) ∙
    ap₂ (λ a b. a && b) (one (p from) (q from) (r from)) (all-both p q r (from + 1) count)
  where
    mixed : (a b c d : Bool) → ((a && b) && (c && d)) ≡ ((a && c) && (b && d))
    mixed true b true d = refl
    mixed true true false d = refl
    mixed true false false d = refl
    mixed false b c d = refl

    one : (a b c : Bool) → ((not a || c) && (not b || c)) ≡ (not (a || b) || c)
    one true true true = refl
    one true true false = refl
    one true false true = refl
    one true false false = refl
    one false true true = refl
    one false true false = refl
    one false false c = refl

pub is_covered-runs : (last now : Asked) (len : ℕ) → (is_run_covered last now.window len && is_run_covered last now.request len) ≡ is_covered last now len
is_covered-runs last now len = all-both (is_within now.window) (is_within now.request) (is_asked last) 0 len

-- what is asked for now was asked for at the last update, where all of it was
pub covered-each : (last now : Asked) (len index : ℕ) → is_covered last now len ≡ true → index < len → is_asked now index ≡ true → is_asked last index ≡ true
covered-each last now len index all inside here =
    ap (λ b. not b || is_asked last index) (sym here) ∙
    all-each (λ i. not (is_asked now i) || is_asked last i) 0 len index all (omega arith) (omega (arith, inside))

-- one run: it has no line, or all its lines are those of a stretch
not-asked : (run : Run) (asked : Asked) (index : ℕ) → is_within run index ≡ false → (not (is_within run index) || is_asked asked index) ≡ true
not-asked run asked index none = ap (λ b. not b || is_asked asked index) none

pub covered-none : (asked : Asked) (run : Run) (len end : ℕ) → end ≡ min run.end len → end ≤ run.start → is_run_covered asked run len ≡ true
covered-none asked run len end is none =
    all-true (λ index. not (is_within run index) || is_asked asked index) 0 len (λ k low high. not-asked run asked k (by k high (cases_lt k run.start)))
  where
    by : (k : ℕ) → k < 0 + len → (k < run.start) ⊎ (run.start ≤ k) → is_within run k ≡ false
    by k high (inl less) = before-run run k less
    by k high (inr more) = past-run run k (omega (arith, is, none, high, more))

module _ (asked : Asked) (run : Run) (len end : ℕ) (is : end ≡ min run.end len) (some : run.start < end) where
  wanted-not : (index : ℕ) → run.start ≤ index → index < end → is_asked asked index ≡ false → is_run_covered asked run len ≡ false
  wanted-not index low high none =
      all-false (λ i. not (is_within run i) || is_asked asked i) 0 len index (omega arith) (omega (arith, high, is))
      (ap₂ (λ a b. not a || b) (in-run run index low (omega (arith, high, is))) none)

  pub covered-first : is_asked asked run.start ≡ false → is_run_covered asked run len ≡ false
  covered-first none = wanted-not run.start (omega arith) some none

  pub covered-stretch : (stretch : ℕ) → is_asked asked run.start ≡ true → IsStretch asked run.start stretch len → nat_le end stretch ≡ is_run_covered asked run len
  covered-stretch stretch first goes = by (cases_lt stretch end)
    where
      by : (stretch < end) ⊎ (end ≤ stretch) → nat_le end stretch ≡ is_run_covered asked run len
      by (inl less) =
          lt-leb end stretch less ∙
          sym (wanted-not stretch (omega (arith, goes.some)) less (goes.ends (omega (arith, less, is)) ∙ ap not first))
      by (inr more) =
          le-leb end stretch more ∙
          sym (all-true (λ i. not (is_within run i) || is_asked asked i) 0 len (λ k low high. each k high (is_within run k) refl))
        where
          each : (k : ℕ) → k < 0 + len → (b : Bool) → is_within run k ≡ b → (not (is_within run k) || is_asked asked k) ≡ true
          each k high false none = not-asked run asked k none
          each k high true here =
              let ends = ends-of run k here in
              or_right (not (is_within run k)) (is_asked asked k) (goes.alike k ends.0 (omega (arith, is, more, ends.1, high)) ∙ first)
