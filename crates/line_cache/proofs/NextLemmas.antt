-- Lemmas on the next valid lines, and on runs of which each line is valid.
use Rattle.std.proofs.Common.{◌≡◌, ◌⊎◌, inl, inr, ℕ, zero, suc, ◌+◌, ◌-◌, ◌<◌, ◌≤◌, Bool, true, false, List, [], length, drop, replicate, Some, refl, sym, ap, ap₂, subst, ◌∙◌, arith, length-append, zero-add}
use Rattle.std.specs.Prelude.{◌||◌, ◌&&◌, min, nat_le, not, slice_get}
use Rattle.std.specs.List.{list_all, range_with_len}
use Rattle.std.proofs.lemmas.Bool.{and_from, cases_lt, le-leb, lt-ltb}
use Rattle.std.proofs.lemmas.Bool.Decides.{nat_tests}
use Rattle.std.proofs.lemmas.List.{drop-drop, get_or-drop, get_or_past, length-drop, length-replicate}
use Rattle.std.proofs.lemmas.List.Folds.{list_all_at}
use Rattle.std.proofs.lemmas.List.FromFn.{get_or-range_with_len, length-range_with_len}
use Rattle.std.proofs.lemmas.Option.{slice_get-get_or}
use Rattle.plain_text.specs.declared.run.Run.{Run}
use Rattle.plain_screen.specs.Plan.{is_within}
use Rattle.subset_runs.specs.Stretch.{IsFront}
use Rattle.subset_runs.specs.Subset.{contains}
use Rattle.subset_runs.specs.declared.stretch.Stretch.{Stretch}
use Rattle.line_cache.specs.Runs.{IsNextRun, has_all}
use Rattle.line_cache.proofs.AheadLemmas.{alike-ahead}

-- no stretch is longer than what it is the front of
front-within : (flags : List Bool) (s : Stretch) → IsFront flags s → s.len ≤ length flags
front-within flags s front =
    omega (arith, ap length front.same, length-append (replicate s.len s.member) (drop s.len flags), length-replicate s.len s.member)

-- the line behind a stretch stands otherwise, if there is one
front-behind : (flags : List Bool) (s : Stretch) → IsFront flags s → s.len < length flags → contains flags s.len ≡ not s.member
front-behind flags s front less = by s.member (contains flags s.len) front.longest (slice_get-get_or flags s.len false less)
  where
    by : (member found : Bool) → (slice_get flags s.len ≡ Some member → ⊥) → slice_get flags s.len ≡ Some found → found ≡ not member
    by true true other is = absurd (other is)
    by true false other is = refl
    by false true other is = refl
    by false false other is = absurd (other is)

module _ (truths : List Bool) (from : ℕ) (s : Stretch) (front : IsFront (drop from truths) s) (inside : from < length truths) where
  behind-at : contains truths (from + s.len) ≡ not s.member ⊎ (length truths ≤ from + s.len)
  behind-at = elim (cases_lt s.len (length (drop from truths))) [
    | inl less ↦ inl (sym (get_or-drop from truths s.len false) ∙ front-behind (drop from truths) s front less)
    | inr all ↦ inr (omega (arith, all, length-drop from truths))
  ]

  -- the lines at the front are the next run, where they are valid
  pub next-here : s.member ≡ true → IsNextRun truths from (record { start = from; end = from + s.len })
  next-here valid = record {
    some = omega (arith, front.some);
    from_there = omega arith;
    inside = omega (arith, inside, front-within (drop from truths) s front, length-drop from truths);
    before = λ index low high. absurd (omega (arith, low, high));
    valid = λ index low high.
        let at : from + (index - from) ≡ index = omega (arith, low) in
        ap (contains truths) (sym at) ∙ alike-ahead truths (drop from truths) from s refl front (index - from) (omega (arith, low, high)) ∙ valid;
    behind = elim behind-at [
      | inl other ↦ other ∙ ap not valid
      | inr past ↦ get_or_past truths (from + s.len) false past
    ];
  }

  -- no line at the front is valid
  front-none : s.member ≡ false → (index : ℕ) → from ≤ index → index < from + s.len → contains truths index ≡ false
  front-none none index low high =
      let at : from + (index - from) ≡ index = omega (arith, low) in
      ap (contains truths) (sym at) ∙ alike-ahead truths (drop from truths) from s refl front (index - from) (omega (arith, low, high)) ∙ none

  -- none is at all, where nothing stands behind them
  pub next-none : s.member ≡ false → drop s.len (drop from truths) ≡ [] → (index : ℕ) → from ≤ index → contains truths index ≡ false
  next-none none all index low = elim (cases_lt index (from + s.len)) [
    | inl less ↦ front-none none index low less
    | inr past ↦
        get_or_past truths index false
        (omega (arith, past, inside, ap length all, length-drop s.len (drop from truths), length-drop from truths))
  ]

-- and else those behind them are the next run
pub next-later : (truths : List Bool) (from : ℕ) (s t : Stretch) → IsFront (drop from truths) s → from < length truths → s.member ≡ false →
    IsFront (drop s.len (drop from truths)) t → IsNextRun truths from (record { start = from + s.len; end = from + s.len + t.len })
next-later truths from s t front inside none later =
    let next : IsFront (drop (from + s.len) truths) t = subst (λ fs. IsFront fs t) (drop-drop s.len from truths) later in
    let some : 0 < length (drop (from + s.len) truths) = omega (arith, next.some, front-within (drop (from + s.len) truths) t next) in
    let there : from + s.len < length truths = omega (arith, some, length-drop (from + s.len) truths) in
    let begins : contains truths (from + s.len) ≡ true =
    elim (behind-at truths from s front inside) [ inl other ↦ other ∙ ap not none | inr past ↦ absurd (omega (arith, past, there)) ] in
    let same_at : from + s.len + 0 ≡ from + s.len = omega arith in
    let valid : t.member ≡ true =
    sym (alike-ahead truths (drop (from + s.len) truths) (from + s.len) t refl next 0 next.some) ∙ ap (contains truths) same_at ∙ begins in
    let run = next-here truths (from + s.len) t next there valid in
    record {
      some = run.some;
      from_there = omega (arith, run.from_there);
      inside = run.inside;
      before = λ index low high. front-none truths from s front inside none index low high;
      valid = run.valid;
      behind = run.behind;
    }

-- ---- runs of which each line is valid

abbrev test : List Bool → Run → ℕ → Bool
test truths run index = not (is_within run index) || contains truths index

passes : (truths : List Bool) (run : Run) (index : ℕ) → (run.start ≤ index → index < run.end → contains truths index ≡ true) → test truths run index ≡ true
passes truths run index valid = by (is_within run index) refl
  where
    by : (b : Bool) → is_within run index ≡ b → (not b || contains truths index) ≡ true
    by false is = refl
    by true is = valid (grind (arith, nat_tests, is)) (grind (arith, nat_tests, is))

all-pass : (truths : List Bool) (run : Run) (from count : ℕ) →
    ((index : ℕ) → from ≤ index → index < from + count → run.start ≤ index → index < run.end → contains truths index ≡ true) →
    list_all (test truths run) (range_with_len from count) ≡ true
all-pass truths run from zero each = refl
all-pass truths run from (suc count) each =
    and_from (test truths run from) (list_all (test truths run) (range_with_len (from + 1) count))
    (passes truths run from (λ low high. each from (omega arith) (omega arith) low high))
    (all-pass truths run (from + 1) count (λ index past under low high. each index (omega (arith, past)) (omega (arith, under)) low high))

-- each line of a run is valid
pub has_all-yes : (truths : List Bool) (run : Run) → ((index : ℕ) → index < length truths → run.start ≤ index → index < run.end → contains truths index ≡ true) →
    has_all truths run ≡ true
has_all-yes truths run each = all-pass truths run 0 (length truths) (λ index past under low high. each index (omega (arith, under)) low high)

-- one of them is not
fails : (truths : List Bool) (run : Run) (index : ℕ) → run.start ≤ index → index < run.end → contains truths index ≡ false → test truths run index ≡ false
fails truths run index low high none =
    let within : is_within run index ≡ true = ap₂ (λ a b. a && b) (le-leb run.start index low) (lt-ltb index run.end high) in
    ap₂ (λ a b. not a || b) within none

pub has_all-no : (truths : List Bool) (run : Run) (index : ℕ) → index < length truths → run.start ≤ index → index < run.end → contains truths index ≡ false →
    has_all truths run ≡ false
has_all-no truths run index inside low high none =
    list_all_at (test truths run) (range_with_len 0 (length truths)) index 0 (omega (arith, inside, length-range_with_len 0 (length truths)))
    (ap (test truths run) (get_or-range_with_len 0 (length truths) index 0 inside ∙ zero-add index) ∙ fails truths run index low high none)

-- each line of a run is valid where the valid lines from its start on begin there and go as far
pub has_all-run : (truths : List Bool) (run valid : Run) (end : ℕ) → end ≡ min run.end (length truths) → run.start < end → IsNextRun truths run.start valid →
    valid.start ≡ run.start → nat_le end valid.end ≡ has_all truths run
has_all-run truths run valid end is some next same = elim (cases_lt valid.end end) [
  | inl less ↦
      (let short : nat_le end valid.end ≡ false = grind (arith, nat_tests, less) in short) ∙
      sym (has_all-no truths run valid.end (omega (arith, less, is)) (omega (arith, next.some, same)) (omega (arith, less, is)) next.behind)
  | inr all ↦
      le-leb end valid.end all ∙
      sym (has_all-yes truths run (λ index inside low high. next.valid index (omega (arith, low, same)) (omega (arith, high, inside, is, all))))
]

-- and not where they begin later
pub has_all-later : (truths : List Bool) (run valid : Run) (end : ℕ) → end ≡ min run.end (length truths) → run.start < end → IsNextRun truths run.start valid →
    (valid.start ≡ run.start → ⊥) → has_all truths run ≡ false
has_all-later truths run valid end is some next other =
    has_all-no truths run run.start (omega (arith, some, is)) (omega arith) (omega (arith, some, is))
    (next.before run.start (omega arith) (elim (cases_lt run.start valid.start) [
      | inl less ↦ less
      | inr ge ↦ absurd (other (omega (arith, ge, next.from_there)))
    ]))
