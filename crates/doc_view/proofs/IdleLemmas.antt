-- An edit of replacements does nothing exactly where its one run is the whole text and it adds nothing.
use Rattle.std.proofs.Common.{◌≡◌, ◌≢◌, ℕ, zero, suc, ◌+◌, ◌<◌, ◌≤◌, Bool, true, false, List, [], ◌∷◌, ◌++◌, length, refl, ap, ap₂, sym, ◌∙◌, arith, inl, inr}
use Rattle.std.specs.Prelude.{if◌then◌else◌, nat_lt, nat_le, ◌==◌, ◌&&◌, ◌||◌}
use Rattle.std.specs.List.{list_all, range_with_len}
use Rattle.std.proofs.lemmas.Bool.{cases_lt, eq-eqb, eqb-true, lt-ltb, le-leb, ne_eqb}
use Rattle.std.proofs.lemmas.Bool.Decides.{nat_tests}
use Rattle.plain_text.specs.declared.run.Run.{Run}
use Rattle.plain_edits.specs.declared.delta.Added.{Added}
use Rattle.plain_edits.specs.declared.delta.UnitDelta.{UnitDelta}
use Rattle.plain_edits.specs.Delta.{is_in_runs, text_at_gap}
use Rattle.plain_edits.specs.UnitDelta.{AreAdds, AreApart, AreRuns, unit_adds, unit_keeps}
use Rattle.edit_ops.specs.declared.replacement.Replacement.{Replacement}
use Rattle.edit_ops.specs.Replacements.{IsEditOf, added_by, kept_by}
use Rattle.doc_view.specs.Idle.{do_nothing}
use Rattle.doc_view.specs.Inner.{is_whole_run}

-- ---- a test of all numbers up to one

all-same : (p q : ℕ → Bool) (from count : ℕ) → ((k : ℕ) → k < from + count → p k ≡ q k) →
    list_all p (range_with_len from count) ≡ list_all q (range_with_len from count)
all-same p q from zero same = refl
all-same p q from (suc count) same =
    ap₂ (λ a b. a && b) (same from (omega arith)) (all-same p q (from + 1) count (λ k less. same k (omega (arith, less))))

all-true : (p : ℕ → Bool) (from count : ℕ) → ((k : ℕ) → from ≤ k → k < from + count → p k ≡ true) → list_all p (range_with_len from count) ≡ true
all-true p from zero each = refl
all-true p from (suc count) each =
    ap₂ (λ a b. a && b) (each from (omega arith) (omega arith)) (all-true p (from + 1) count (λ k low high. each k (omega arith) (omega arith)))

and-false : (a : Bool) → (a && false) ≡ false
and-false true = refl
and-false false = refl

all-false : (p : ℕ → Bool) (from count at : ℕ) → from ≤ at → at < from + count → p at ≡ false → list_all p (range_with_len from count) ≡ false
all-false p from zero at low high is = absurd (omega arith)
all-false p from (suc count) at low high is = elim (cases_lt from at) [
  | inl less ↦ ap (λ b. p from && b) (all-false p (from + 1) count at (omega arith) (omega arith) is) ∙ and-false (p from)
  | inr more ↦ let same : at ≡ from = omega arith in ap (λ b. b && list_all p (range_with_len (from + 1) count)) (sym (ap p same) ∙ is)
]

-- ---- what is kept

pub runs-reach : (base from : ℕ) (runs : List Run) → AreRuns base from runs → from ≤ base
runs-reach base from [] are = are
runs-reach base from (run ∷ runs) are = omega (arith, are.0, are.1, runs-reach base run.end runs are.2)

-- no run has what is left of it
none_left : (from index : ℕ) (runs : List Run) → AreApart from runs → index < from → is_in_runs runs index ≡ false
none_left from index [] apart less = refl
none_left from index (run ∷ runs) apart less =
    let past : nat_le run.start index ≡ false = grind (arith, nat_tests, apart.0) in
    ap (λ b. (b && nat_lt index run.end) || is_in_runs runs index) past ∙
    none_left (run.end + 1) index runs apart.2 (omega (arith, apart.0, apart.1, less))

-- a run has what is in it
pub first_has : (run : Run) (runs : List Run) (index : ℕ) → run.start ≤ index → index < run.end → is_in_runs (run ∷ runs) index ≡ true
first_has run runs index low high =
    ap₂ (λ a b. (a && b) || is_in_runs runs index) (le-leb run.start index low) (lt-ltb index run.end high)

-- it is all where the first run is
whole-kept : (base : ℕ) (runs : List Run) → AreRuns base 0 runs → AreApart 0 runs →
    list_all (is_in_runs runs) (range_with_len 0 base) ≡ is_whole_run base runs
whole-kept zero [] are apart = refl
whole-kept (suc base) [] are apart =
    all-false (is_in_runs []) 0 (suc base) 0 (omega arith) (omega arith) refl ∙ sym (ne_eqb (suc base) 0 (λ is. omega (arith, is)))
whole-kept base (run ∷ runs) are apart = by (run.start == 0) refl (run.end == base) refl
  where
    within : run.end ≤ base
    within = runs-reach base run.end runs are.2

    by : (starts : Bool) → (run.start == 0) ≡ starts → (ends : Bool) → (run.end == base) ≡ ends →
        list_all (is_in_runs (run ∷ runs)) (range_with_len 0 base) ≡ (starts && ends)
    by true start true end =
        let zero_is = eqb-true run.start 0 start in
        let base_is = eqb-true run.end base end in
        all-true (is_in_runs (run ∷ runs)) 0 base (λ k low high. first_has run runs k (omega (arith, zero_is)) (omega (arith, base_is, high)))
    by true start false end =
        let less : run.end < base = grind (arith, nat_tests, within, end) in
        let past : nat_lt run.end run.end ≡ false = grind (arith, nat_tests) in
        all-false (is_in_runs (run ∷ runs)) 0 base run.end (omega arith) (omega arith)
        (ap (λ b. (nat_le run.start run.end && b) || is_in_runs runs run.end) past ∙
        ap (λ b. b || is_in_runs runs run.end) (and-false (nat_le run.start run.end)) ∙
        none_left (run.end + 1) run.end runs apart.2 (omega arith))
    by false start ends end =
        let some : 0 < run.start = grind (arith, nat_tests, start) in
        all-false (is_in_runs (run ∷ runs)) 0 base 0 (omega arith) (omega (arith, some, apart.1, within))
        (none_left run.start 0 (run ∷ runs) (omega arith, apart.1, apart.2) some)

-- ---- what is added

none_added : (base : ℕ) (adds : List Added) → AreAdds base 0 adds →
    list_all (λ gap. length (text_at_gap adds gap) == 0) (range_with_len 0 (base + 1)) ≡ (length adds == 0)
none_added base [] are = all-true (λ gap. length (text_at_gap [] gap) == 0) 0 (base + 1) (λ k low high. refl)
none_added base (added ∷ adds) are =
    all-false (λ gap. length (text_at_gap (added ∷ adds) gap) == 0) 0 (base + 1) added.gap (omega arith) (omega (arith, are.1)) (ap (λ t. length t == 0) here ∙ longer added.text (text_at_gap adds added.gap) are.2) ∙
    sym (ne_eqb (length (added ∷ adds)) 0 (λ none. omega (arith, none)))
  where
    here : text_at_gap (added ∷ adds) added.gap ≡ added.text ++ text_at_gap adds added.gap
    here = ap (λ b. (if b then added.text else []) ++ text_at_gap adds added.gap) (eq-eqb added.gap added.gap refl)

    longer : (text more : List ℕ) → text ≢ [] → (length (text ++ more) == 0) ≡ false
    longer [] more filled = absurd (filled refl)
    longer (c ∷ text) more filled = ne_eqb (length (c ∷ (text ++ more))) 0 (λ none. omega (arith, none))

-- ---- both

pub does_nothing-is : (units : UnitDelta) (replacements : List Replacement) → IsEditOf units.base replacements units →
    ((length units.added == 0) && is_whole_run units.base units.kept) ≡ do_nothing units.base replacements
does_nothing-is units replacements is =
    swap (length units.added == 0) (is_whole_run units.base units.kept) ∙
    ap₂ (λ a b. a && b)
    (sym (whole-kept units.base units.kept is.canonical.well_formed.runs is.canonical.apart) ∙
    all-same (unit_keeps units) (kept_by replacements) 0 units.base (λ k less. is.kept k (omega (arith, less))))
    (sym (none_added units.base units.added is.canonical.well_formed.adds) ∙
    all-same (λ gap. length (unit_adds units gap) == 0) (λ gap. length (added_by replacements gap) == 0) 0 (units.base + 1)
    (λ k less. ap (λ t. length t == 0) (is.added k)))
  where
    swap : (a b : Bool) → (a && b) ≡ (b && a)
    swap true true = refl
    swap true false = refl
    swap false true = refl
    swap false false = refl

-- no replacement does nothing
pub do_nothing-none : (len : ℕ) → do_nothing len [] ≡ true
do_nothing-none len =
    ap₂ (λ a b. a && b) (all-true (kept_by []) 0 len (λ k low high. refl))
    (all-true (λ gap. length (added_by [] gap) == 0) 0 (len + 1) (λ k low high. refl))
