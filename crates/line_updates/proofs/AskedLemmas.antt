-- Whether a front end has all the lines that it asks for, run by run.
use Rattle.std.proofs.Common.{◌≡◌, ℕ, zero, suc, ◌+◌, ◌<◌, ◌≤◌, Bool, true, false, List, length, refl, ap, ap₂, sym, ◌∙◌, arith}
use Rattle.std.specs.Prelude.{◌&&◌, ◌||◌, ◌==◌, not, nat_lt, nat_le}
use Rattle.std.specs.List.{list_all, range_with_len}
use Rattle.std.proofs.lemmas.Bool.{and_right, le-leb, le-ltb, lt-leb, lt-ltb}
use Rattle.std.proofs.lemmas.Bool.Decides.{nat_tests}
use Rattle.plain_text.specs.declared.run.Run.{Run}
use Rattle.plain_screen.specs.Plan.{is_within}
use Rattle.subset_runs.specs.Subset.{contains}
use Rattle.line_cache.specs.Runs.{has_all}
use Rattle.doc_layout.specs.declared.asked.Asked.{Asked}
use Rattle.doc_layout.specs.Told.{is_asked}
use Rattle.line_updates.specs.Told.{has_lines}

-- ---- lines of one run

pub in-run : (run : Run) (index : ℕ) → run.start ≤ index → index < run.end → is_within run index ≡ true
in-run run index low high = ap₂ (λ a b. a && b) (le-leb run.start index low) (lt-ltb index run.end high)

pub before-run : (run : Run) (index : ℕ) → index < run.start → is_within run index ≡ false
before-run run index less = ap (λ b. b && nat_lt index run.end) (lt-leb run.start index less)

pub past-run : (run : Run) (index : ℕ) → run.end ≤ index → is_within run index ≡ false
past-run run index more = and_right (nat_le run.start index) (nat_lt index run.end) (le-ltb index run.end more)

-- ---- all lines of one run and all of another

all-both : (p q r : ℕ → Bool) (from count : ℕ) →
    (list_all (λ k. not (p k) || r k) (range_with_len from count) && list_all (λ k. not (q k) || r k) (range_with_len from count)) ≡
    list_all (λ k. not (p k || q k) || r k) (range_with_len from count)
all-both p q r from zero = refl
all-both p q r from (suc count) =
    mixed (not (p from) || r from) (list_all (λ k. not (p k) || r k) (range_with_len (from + 1) count)) (not (q from) || r from)
    (list_all (λ k. not (q k) || r k) (range_with_len (from + 1) count)) ∙
    ap₂ (λ a b. a && b) (one (p from) (q from) (r from)) (all-both p q r (from + 1) count)
  where
    mixed : (a b c d : Bool) → ((a && b) && (c && d)) ≡ ((a && c) && (b && d))
    mixed true b true d = refl
    mixed true true false d = refl
    mixed true false false d = refl
    mixed false b c d = refl

    one : (a b c : Bool) → ((not a || c) && (not b || c)) ≡ (not (a || b) || c)
    one true true true = refl
    one true true false = refl
    one true false true = refl
    one true false false = refl
    one false true true = refl
    one false true false = refl
    one false false c = refl

-- where the screen has as many lines as the layout
all-asked : (had : List Bool) (now : Asked) → (has_all had now.window && has_all had now.request) ≡
    list_all (λ index. not (is_asked now index) || contains had index) (range_with_len 0 (length had))
all-asked had now = all-both (is_within now.window) (is_within now.request) (contains had) 0 (length had)

module _ (had : List Bool) (now : Asked) (len : ℕ) where
  pub lines-other : (length had ≡ len → ⊥) → false ≡ has_lines had now len
  lines-other other =
      let none : (length had == len) ≡ false = grind (arith, nat_tests, other) in
      sym (ap (λ b. b && list_all (λ index. not (is_asked now index) || contains had index) (range_with_len 0 len)) none)

  pub lines-same : length had ≡ len → (has_all had now.window && has_all had now.request) ≡ has_lines had now len
  lines-same same =
      let one : (length had == len) ≡ true = grind (arith, nat_tests, same) in
      all-asked had now ∙ ap (λ n. list_all (λ index. not (is_asked now index) || contains had index) (range_with_len 0 n)) same ∙
      sym (ap (λ b. b && list_all (λ index. not (is_asked now index) || contains had index) (range_with_len 0 len)) one)
