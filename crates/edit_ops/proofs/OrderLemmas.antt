-- Replacements in order: what they keep and add left of and right of a gap, and the walk along them.
use Rattle.std.proofs.Common.{◌≡◌, ⊎_elim, ℕ, zero, suc, ◌+◌, ◌-◌, ◌<◌, ◌≤◌, Bool, true, false, List, [], ◌∷◌, ◌++◌, map, cond, length, drop, drop-cons, get_or, append-nil, append_assoc, refl, sym, ap, subst, ◌∙◌, arith}
use Rattle.std.specs.Prelude.{max, nat_lt, nat_le, ◌==◌, ◌&&◌, ◌||◌, ◌⊎◌, if◌then◌else◌}
use Rattle.std.specs.List.{count_by, range_with_len, sum_by}
use Rattle.std.proofs.lemmas.Bool.{cases_Bool, cases_lt, eq-eqb, le-leb, le-ltb, lt-leb, lt-ltb, ltb-true, ltb-false, ne_eqb}
use Rattle.plain_text.specs.declared.run.Run.{Run}
use Rattle.plain_edits.specs.Delta.{is_in_runs, text_at_gap}
use Rattle.plain_edits.specs.UnitDelta.{AreAdds, AreApart, AreRuns}
use Rattle.plain_edits.specs.declared.delta.Added.{Added}
use Rattle.plain_edits.proofs.callers.CaretLemmas.{sum-last}
use Rattle.edit_ops.specs.declared.replacement.Replacement.{Replacement}
use Rattle.edit_ops.specs.Inner.{added_if, additions_of, kept_from, run_if}
use Rattle.edit_ops.specs.Replacements.{AreInOrder, IsEditOf, added_by, gap_with, kept_by}
use Rattle.edit_ops.proofs.LawLemmas.{no_text, outside-empty}

-- ---- nothing is dropped or added left of where replacements start

kept_by-left : (base low : ℕ) (rs : List Replacement) (index : ℕ) → AreInOrder base low rs → index + 1 < low → kept_by rs index ≡ true
kept_by-left base low [] index order left = refl
kept_by-left base low (r ∷ rs) index order left =
    rw (lt-leb r.range.start index (omega (arith, order.0))) (kept_by-left base (r.range.start + 1) rs index order.4 (omega (arith, order.0)))

kept_by-ahead : (base low : ℕ) (r : Replacement) (rs : List Replacement) (index : ℕ) → AreInOrder base low (r ∷ rs) → index < r.range.start →
    kept_by (r ∷ rs) index ≡ true
kept_by-ahead base low r rs index order left =
    rw (lt-leb r.range.start index left) (kept_by-left base (r.range.start + 1) rs index order.4 (omega arith))

kept_by-in : (r : Replacement) (rs : List Replacement) (index : ℕ) → r.range.start ≤ index → index < r.range.end → kept_by (r ∷ rs) index ≡ false
kept_by-in r rs index reached left = rw (le-leb r.range.start index reached, lt-ltb index r.range.end left) refl

kept_by-past : (r : Replacement) (rs : List Replacement) (index : ℕ) → r.range.end ≤ index → kept_by (r ∷ rs) index ≡ kept_by rs index
kept_by-past r rs index past =
    ⊎_elim
    (λ (left : index < r.range.start). rw (lt-leb r.range.start index left) refl)
    (λ (reached : r.range.start ≤ index). rw (le-leb r.range.start index reached, le-ltb index r.range.end past) refl)
    (cases_lt index r.range.start)

added_by-elsewhere : (r : Replacement) (rs : List Replacement) (gap : ℕ) → (r.range.start ≡ gap → ⊥) → added_by (r ∷ rs) gap ≡ added_by rs gap
added_by-elsewhere r rs gap differ = rw (ne_eqb r.range.start gap differ) refl

added_by-left : (base low : ℕ) (rs : List Replacement) (gap : ℕ) → AreInOrder base low rs → gap < low → added_by rs gap ≡ []
added_by-left base low [] gap order left = refl
added_by-left base low (r ∷ rs) gap order left =
    let others = added_by-left base (r.range.start + 1) rs gap order.4 (omega (arith, order.0)) in
    ⊎_elim
    (λ (none : r.text ≡ []). rw (no_text (r.range.start == gap) r.text none) others)
    (λ (ahead : low ≤ r.range.start). added_by-elsewhere r rs gap (λ same. omega (arith, same)) ∙ others)
    order.3

added_by-here : (base : ℕ) (r : Replacement) (rs : List Replacement) → AreInOrder base (r.range.start + 1) rs → added_by (r ∷ rs) r.range.start ≡ r.text
added_by-here base r rs order =
    rw (eq-eqb r.range.start r.range.start refl, added_by-left base (r.range.start + 1) rs r.range.start order (omega arith)) (append-nil r.text)

-- ---- sums over the first numbers

sum_ones : (f : ℕ → ℕ) (n k : ℕ) → ((i : ℕ) → n ≤ i → i < n + k → f i ≡ 1) → sum_by f (range_with_len 0 (n + k)) ≡ sum_by f (range_with_len 0 n) + k
sum_ones f n zero each = let none : n + 0 ≡ n = omega arith in omega (arith, ap (λ m. sum_by f (range_with_len 0 m)) none)
sum_ones f n (suc k) each =
    let more : n + suc k ≡ n + k + 1 = omega arith in
    omega (arith, ap (λ m. sum_by f (range_with_len 0 m)) more, sum-last f 0 (n + k), each (0 + (n + k)) (omega arith) (omega arith), sum_ones f n k (λ i from below. each i from (omega arith)))

sum_zeros : (f : ℕ → ℕ) (n k : ℕ) → ((i : ℕ) → n ≤ i → i < n + k → f i ≡ 0) → sum_by f (range_with_len 0 (n + k)) ≡ sum_by f (range_with_len 0 n)
sum_zeros f n zero each = let none : n + 0 ≡ n = omega arith in ap (λ m. sum_by f (range_with_len 0 m)) none
sum_zeros f n (suc k) each =
    let more : n + suc k ≡ n + k + 1 = omega arith in
    omega (arith, ap (λ m. sum_by f (range_with_len 0 m)) more, sum-last f 0 (n + k), each (0 + (n + k)) (omega arith) (omega arith), sum_zeros f n k (λ i from below. each i from (omega arith)))

sum_rises : (f : ℕ → ℕ) (n k : ℕ) → sum_by f (range_with_len 0 n) ≤ sum_by f (range_with_len 0 (n + k))
sum_rises f n zero = let none : n + 0 ≡ n = omega arith in omega (arith, ap (λ m. sum_by f (range_with_len 0 m)) none)
sum_rises f n (suc k) =
    let more : n + suc k ≡ n + k + 1 = omega arith in
    omega (arith, ap (λ m. sum_by f (range_with_len 0 m)) more, sum-last f 0 (n + k), sum_rises f n k)

-- the same up to a number that is not less
ones_to : (p : ℕ → Bool) (n m : ℕ) → n ≤ m → ((i : ℕ) → n ≤ i → i < m → p i ≡ true) → count_by p (range_with_len 0 m) ≡ count_by p (range_with_len 0 n) + (m - n)
ones_to p n m le each =
    let whole : n + (m - n) ≡ m = omega arith in
    sym (ap (λ k. count_by p (range_with_len 0 k)) whole) ∙
    sum_ones (λ i. cond (p i) 1 0) n (m - n) (λ i from below. ap (λ b. cond b 1 0) (each i from (omega arith)))

zeros_to : (p : ℕ → Bool) (n m : ℕ) → n ≤ m → ((i : ℕ) → n ≤ i → i < m → p i ≡ false) → count_by p (range_with_len 0 m) ≡ count_by p (range_with_len 0 n)
zeros_to p n m le each =
    let whole : n + (m - n) ≡ m = omega arith in
    sym (ap (λ k. count_by p (range_with_len 0 k)) whole) ∙
    sum_zeros (λ i. cond (p i) 1 0) n (m - n) (λ i from below. ap (λ b. cond b 1 0) (each i from (omega arith)))

pub none_to : (texts : ℕ → List ℕ) (n m : ℕ) → n ≤ m → ((gap : ℕ) → n ≤ gap → gap < m → texts gap ≡ []) →
    sum_by (λ gap. length (texts gap)) (range_with_len 0 m) ≡ sum_by (λ gap. length (texts gap)) (range_with_len 0 n)
none_to texts n m le each =
    let whole : n + (m - n) ≡ m = omega arith in
    sym (ap (λ k. sum_by (λ gap. length (texts gap)) (range_with_len 0 k)) whole) ∙
    sum_zeros (λ gap. length (texts gap)) n (m - n) (λ gap from below. ap length (each gap from (omega arith)))

-- a gap that is further right goes further right
pub gap_with-rises : (all : List Replacement) (n m : ℕ) → n ≤ m → gap_with all n ≤ gap_with all m
gap_with-rises all n m le =
    let whole : n + (m - n) ≡ m = omega arith in
    let whole_adds : n + 1 + (m - n) ≡ m + 1 = omega arith in
    omega (
      arith,
      sum_rises (λ i. cond (kept_by all i) 1 0) n (m - n),
      sum_rises (λ gap. length (added_by all gap)) (n + 1) (m - n),
      ap (λ k. sum_by (λ i. cond (kept_by all i) 1 0) (range_with_len 0 k)) whole,
      ap (λ k. sum_by (λ gap. length (added_by all gap)) (range_with_len 0 k)) whole_adds,
    )

-- ---- the walk along replacements in order

-- a walk has gone over some replacements up to `at`: so many characters are kept left of it, and so many are added where those start
pub record IsReached (base : ℕ) (all : List Replacement) (at kept added : ℕ) (rest : List Replacement) : Type 0 where
  pub low : ℕ
  pub order : AreInOrder base low rest
  pub reached : low ≤ at + 1
  pub ahead : (index : ℕ) → at ≤ index → kept_by all index ≡ kept_by rest index
  pub counted : count_by (kept_by all) (range_with_len 0 at) ≡ kept
  pub dropped : (index : ℕ) → low ≤ index + 1 → index < at → kept_by all index ≡ false
  pub texts : (gap : ℕ) → low ≤ gap → added_by all gap ≡ added_by rest gap
  pub summed : sum_by (λ gap. length (added_by all gap)) (range_with_len 0 low) ≡ added

pub IsReached-start : (base : ℕ) (all : List Replacement) → AreInOrder base 0 all → IsReached base all 0 0 0 all
IsReached-start base all order = record {
  low = 0;
  order = order;
  reached = omega arith;
  ahead = λ index past. refl;
  counted = refl;
  dropped = λ index low left. absurd (omega arith);
  texts = λ gap low. refl;
  summed = refl;
}

module _ (base : ℕ) (all : List Replacement) (at kept added : ℕ) (r : Replacement) (rest : List Replacement) (is : IsReached base all at kept added (r ∷ rest))
    (start : ℕ) (from : start ≡ max at r.range.start) where
  counted_to_start : count_by (kept_by all) (range_with_len 0 start) ≡ kept + (start - at)
  counted_to_start =
      omega (
        arith,
        is.counted,
        ones_to (kept_by all) at start (omega (arith, from))
            (λ i past below. is.ahead i past ∙ kept_by-ahead base is.low r rest i is.order (omega (arith, from))),
      )

  counted_to_gap : count_by (kept_by all) (range_with_len 0 start) ≡ count_by (kept_by all) (range_with_len 0 r.range.start)
  counted_to_gap =
      let order = is.order.0 in
      zeros_to (kept_by all) r.range.start start (omega (arith, from)) (λ i past below. is.dropped i (omega (arith, order)) (omega (arith, from)))

  texts_to_gap : sum_by (λ gap. length (added_by all gap)) (range_with_len 0 (r.range.start + 1)) ≡ added + length r.text
  texts_to_gap =
      let order = is.order.0 in
      ⊎_elim
      (λ (past : r.range.start < is.low).
      let same : r.range.start + 1 ≡ is.low = omega (arith, order) in
      let none : length r.text ≡ 0 = ⊎_elim (λ (empty : r.text ≡ []). ap length empty) (λ (ahead : is.low ≤ r.range.start). absurd (omega arith)) is.order.3 in
      omega (arith, none, is.summed, ap (λ n. sum_by (λ gap. length (added_by all gap)) (range_with_len 0 n)) same))
      (λ (ahead : is.low ≤ r.range.start).
      let between =
      none_to (added_by all) is.low r.range.start ahead
      (λ gap low left.
      is.texts gap low ∙ added_by-elsewhere r rest gap (λ same. omega (arith, same)) ∙
      added_by-left base (r.range.start + 1) rest gap is.order.4 (omega arith)) in
      let at_gap : 0 + r.range.start ≡ r.range.start = omega arith in
      let here : length (added_by all (0 + r.range.start)) ≡ length r.text =
      ap (λ gap. length (added_by all gap)) at_gap ∙ ap length (is.texts r.range.start ahead ∙ added_by-here base r rest is.order.4) in
      omega (arith, is.summed, between, here, sum-last (λ gap. length (added_by all gap)) 0 r.range.start))
      (cases_lt r.range.start is.low)

  -- where the caret of the next replacement goes
  pub gap_with-reached : gap_with all r.range.start ≡ kept + (start - at) + (added + length r.text)
  gap_with-reached = omega (arith, counted_to_start, counted_to_gap, texts_to_gap)

  pub IsReached-step : IsReached base all (max start r.range.end) (kept + (start - at)) (added + length r.text) rest
  IsReached-step =
      let order = is.order.0 in
      record {
        low = r.range.start + 1;
        order = is.order.4;
        reached = omega (arith, from);
        ahead = λ index past. is.ahead index (omega (arith, from)) ∙ kept_by-past r rest index (omega arith);
        counted =
            zeros_to (kept_by all) start (max start r.range.end) (omega arith)
            (λ i past below. is.ahead i (omega (arith, from)) ∙ kept_by-in r rest i (omega (arith, from)) (omega arith)) ∙ counted_to_start;
        dropped = λ index low below.
            ⊎_elim
            (λ (left : index < start). is.dropped index (omega (arith, order)) (omega (arith, from)))
            (λ (past : start ≤ index). is.ahead index (omega (arith, from)) ∙ kept_by-in r rest index (omega arith) (omega arith))
            (cases_lt index start);
        texts = λ gap low. is.texts gap (omega (arith, order)) ∙ added_by-elsewhere r rest gap (λ same. omega (arith, same));
        summed = texts_to_gap;
      }

-- ---- the runs that are kept

AreApart-weaker : (low from : ℕ) (runs : List Run) → low ≤ from → AreApart from runs → AreApart low runs
AreApart-weaker low from [] less apart = tt
AreApart-weaker low from (run ∷ runs) less apart = (omega (arith, apart.0), apart.1, apart.2)

AreRuns-weaker : (base low from : ℕ) (runs : List Run) → low ≤ from → AreRuns base from runs → AreRuns base low runs
AreRuns-weaker base low from [] less rise = omega (arith, rise)
AreRuns-weaker base low from (run ∷ runs) less rise = (omega (arith, rise.0), rise.1, rise.2)

apart-run_if : (low at start next : ℕ) (runs : List Run) → low ≤ at → low ≤ next → start < next → AreApart next runs → AreApart low (run_if at start ++ runs)
apart-run_if low at start next runs from less ahead apart =
    ⊎_elim
    (λ (some : nat_lt at start ≡ true). rw some (from, ltb-true at start some, AreApart-weaker (start + 1) next runs (omega arith) apart))
    (λ (none : nat_lt at start ≡ false). rw none (AreApart-weaker low next runs less apart))
    (cases_Bool (nat_lt at start))

runs-run_if : (base low at start next : ℕ) (runs : List Run) → low ≤ at → low ≤ next → start ≤ next → AreRuns base next runs → AreRuns base low (run_if at start ++ runs)
runs-run_if base low at start next runs from less ahead rise =
    ⊎_elim
    (λ (some : nat_lt at start ≡ true). rw some (from, (let lt = ltb-true at start some in omega arith), AreRuns-weaker base start next runs ahead rise))
    (λ (none : nat_lt at start ≡ false). rw none (AreRuns-weaker base low next runs less rise))
    (cases_Bool (nat_lt at start))

in-run_if : (at start index : ℕ) (runs : List Run) → is_in_runs (run_if at start ++ runs) index ≡ ((nat_le at index && nat_lt index start) || is_in_runs runs index)
in-run_if at start index runs =
    ⊎_elim
    (λ (some : nat_lt at start ≡ true). rw some refl)
    (λ (none : nat_lt at start ≡ false). rw (none, outside-empty at start index (ltb-false at start none)) refl)
    (cases_Bool (nat_lt at start))

-- the runs are apart
pub AreApart-kept_from : (base at : ℕ) (rs : List Replacement) → AreApart at (kept_from base at rs)
AreApart-kept_from base at [] =
    ⊎_elim
    (λ (some : nat_lt at base ≡ true). rw some (omega arith, ltb-true at base some, tt))
    (λ (none : nat_lt at base ≡ false). rw none tt)
    (cases_Bool (nat_lt at base))
AreApart-kept_from base at (r ∷ rs) =
    ⊎_elim
    (λ (some : nat_lt r.range.start r.range.end ≡ true).
    let less = ltb-true r.range.start r.range.end some in
    rw some (apart-run_if at at r.range.start (max at r.range.end) _ (omega arith) (omega arith) (omega arith) (AreApart-kept_from base (max at r.range.end) rs)))
    (λ (none : nat_lt r.range.start r.range.end ≡ false). rw none (AreApart-kept_from base at rs))
    (cases_Bool (nat_lt r.range.start r.range.end))

-- they lie in the base
pub AreRuns-kept_from : (base low at : ℕ) (rs : List Replacement) → AreInOrder base low rs → at ≤ base → AreRuns base at (kept_from base at rs)
AreRuns-kept_from base low at [] order within =
    ⊎_elim
    (λ (some : nat_lt at base ≡ true). rw some (omega arith, within, omega arith))
    (λ (none : nat_lt at base ≡ false). rw none within)
    (cases_Bool (nat_lt at base))
AreRuns-kept_from base low at (r ∷ rs) order within =
    let inside = order.2 in
    ⊎_elim
    (λ (some : nat_lt r.range.start r.range.end ≡ true).
    let less = ltb-true r.range.start r.range.end some in
    rw some (runs-run_if base at at r.range.start (max at r.range.end) _ (omega arith) (omega arith) (omega arith)
    (AreRuns-kept_from base (r.range.start + 1) (max at r.range.end) rs order.4 (omega arith))))
    (λ (none : nat_lt r.range.start r.range.end ≡ false). rw none (AreRuns-kept_from base (r.range.start + 1) at rs order.4 within))
    (cases_Bool (nat_lt r.range.start r.range.end))

-- and they keep what is in no range, from `at` on
pub kept_from-keeps : (base low at : ℕ) (rs : List Replacement) (index : ℕ) → AreInOrder base low rs → index < base →
    is_in_runs (kept_from base at rs) index ≡ (nat_le at index && kept_by rs index)
kept_from-keeps base low at [] index order inside =
    ⊎_elim
    (λ (some : nat_lt at base ≡ true). rw (some, lt-ltb index base inside) (or_false (nat_le at index && true)))
    (λ (none : nat_lt at base ≡ false). let past = ltb-false at base none in rw (none, lt-leb at index (omega arith)) refl)
    (cases_Bool (nat_lt at base))
  where
    or_false : (b : Bool) → (b || false) ≡ b
    or_false true = refl
    or_false false = refl
kept_from-keeps base low at (r ∷ rs) index order inside =
    ⊎_elim
    (λ (some : nat_lt r.range.start r.range.end ≡ true).
    let less = ltb-true r.range.start r.range.end some in
    let next = max at r.range.end in
    let others = kept_from-keeps base (r.range.start + 1) next rs index order.4 inside in
    rw some (in-run_if at r.range.start index (kept_from base next rs) ∙
    ⊎_elim
    (λ (left : index < r.range.start).
    rw (others, kept_by-ahead base low r rs index order left, lt-ltb index r.range.start left, lt-leb next index (omega arith)) (or_false (nat_le at index && true)))
    (λ (reached : r.range.start ≤ index).
    ⊎_elim
    (λ (within : index < r.range.end).
    rw (others, kept_by-in r rs index reached within, le-ltb index r.range.start reached, lt-leb next index (omega arith)) (or_false (nat_le at index && false)))
    (λ (past : r.range.end ≤ index).
    rw (others, kept_by-past r rs index past, le-ltb index r.range.start reached)
    (⊎_elim
    (λ (early : index < at). rw (lt-leb at index early, lt-leb next index (omega arith)) refl)
    (λ (late : at ≤ index). rw (le-leb at index late, le-leb next index (omega arith)) refl)
    (cases_lt index at)))
    (cases_lt index r.range.end))
    (cases_lt index r.range.start)))
    (λ (none : nat_lt r.range.start r.range.end ≡ false).
    let empty = ltb-false r.range.start r.range.end none in
    rw (none, outside-empty r.range.start r.range.end index empty) (kept_from-keeps base (r.range.start + 1) at rs index order.4 inside))
    (cases_Bool (nat_lt r.range.start r.range.end))
  where
    or_false : (b : Bool) → (b || false) ≡ b
    or_false true = refl
    or_false false = refl

-- ---- the additions

AreAdds-weaker : (base low from : ℕ) (adds : List Added) → low ≤ from → AreAdds base from adds → AreAdds base low adds
AreAdds-weaker base low from [] less good = tt
AreAdds-weaker base low from (added ∷ adds) less good = (omega (arith, good.0), good.1, good.2, good.3)

adds-added_if : (base low gap : ℕ) (text : List ℕ) (adds : List Added) → low ≤ gap + 1 → gap ≤ base → (text ≡ []) ⊎ (low ≤ gap) → AreAdds base (gap + 1) adds →
    AreAdds base low (added_if gap text ++ adds)
adds-added_if base low gap [] adds near inside right good = AreAdds-weaker base low (gap + 1) adds near good
adds-added_if base low gap (c ∷ text) adds near inside right good =
    (⊎_elim (λ (none : c ∷ text ≡ []). absurd cc) (λ (fine : low ≤ gap). fine) right, inside, (λ none. cc), good)

pub AreAdds-additions_of : (base low : ℕ) (rs : List Replacement) → AreInOrder base low rs → AreAdds base low (additions_of rs)
AreAdds-additions_of base low [] order = tt
AreAdds-additions_of base low (r ∷ rs) order =
    adds-added_if base low r.range.start r.text (additions_of rs) order.0 (omega (arith, order.1, order.2)) order.3
    (AreAdds-additions_of base (r.range.start + 1) rs order.4)

at-added_if : (start gap : ℕ) (text : List ℕ) (adds : List Added) (others : List ℕ) → text_at_gap adds gap ≡ others →
    text_at_gap (added_if start text ++ adds) gap ≡ (if start == gap then text else []) ++ others
at-added_if start gap [] adds others same = same ∙ sym (ap (λ t. t ++ others) (no_text (start == gap) [] refl))
at-added_if start gap (c ∷ text) adds others same = ap (λ t. (if start == gap then c ∷ text else []) ++ t) same

pub text_at_gap-additions_of : (rs : List Replacement) (gap : ℕ) → text_at_gap (additions_of rs) gap ≡ added_by rs gap
text_at_gap-additions_of [] gap = refl
text_at_gap-additions_of (r ∷ rs) gap =
    at-added_if r.range.start gap r.text (additions_of rs) (added_by rs gap) (text_at_gap-additions_of rs gap)

-- ---- the edit

pub IsEditOf-parts : (base : ℕ) (rs : List Replacement) (kept : List Run) (added : List Added) → AreInOrder base 0 rs → kept ≡ kept_from base 0 rs →
    added ≡ additions_of rs → IsEditOf base rs (record { base = base; kept = kept; added = added })
IsEditOf-parts base rs kept added order kept_is added_is =
    rw (kept_is, added_is) record {
      canonical = record {
        well_formed = record { runs = AreRuns-kept_from base 0 0 rs order (omega arith); adds = AreAdds-additions_of base 0 rs order };
        apart = AreApart-kept_from base 0 rs;
      };
      of = refl;
      kept = λ index inside. kept_from-keeps base 0 0 rs index order inside ∙ ap (λ b. b && kept_by rs index) (le-leb 0 index (omega arith));
      added = text_at_gap-additions_of rs;
    }

-- ---- the walk, an item at a time

drop-item : {X : Type 0} → (xs : List X) (i : ℕ) (x : X) → i < length xs → x ≡ get_or xs i x → drop i xs ≡ x ∷ drop (i + 1) xs
drop-item xs i x below is =
    let next : suc i ≡ i + 1 = omega arith in drop-cons xs i x below ∙ ap (λ k. get_or xs i x ∷ drop k xs) next ∙ ap (λ y. y ∷ drop (i + 1) xs) (sym is)

pub so_far-next : {X Y : Type 0} (f : X → Y) (ys whole : List Y) (xs : List X) (i : ℕ) (x : X) (y : Y) → ys ++ map f (drop i xs) ≡ whole → i < length xs →
    x ≡ get_or xs i x → y ≡ f x → (ys ++ y ∷ []) ++ map f (drop (i + 1) xs) ≡ whole
so_far-next f ys whole xs i x y so_far below item is =
    append_assoc ys (y ∷ []) (map f (drop (i + 1) xs)) ∙ ap (λ z. ys ++ z ∷ map f (drop (i + 1) xs)) is ∙
    ap (λ zs. ys ++ map f zs) (sym (drop-item xs i x below item)) ∙ so_far

module _ (base : ℕ) (all : List Replacement) (at kept added i : ℕ) (r : Replacement) (start len : ℕ) (is : IsReached base all at kept added (drop i all))
    (below : i < length all) (item : r ≡ get_or all i r) (from : start ≡ max at r.range.start) (long : len ≡ length r.text) where
  here : IsReached base all at kept added (r ∷ drop (i + 1) all)
  here = subst (IsReached base all at kept added) (drop-item all i r below item) is

  pub gap_with-item : (kept_on added_on gap : ℕ) → kept_on ≡ kept + (start - at) → added_on ≡ added + len → gap ≡ kept_on + added_on → gap ≡ gap_with all r.range.start
  gap_with-item kept_on added_on gap kept_is added_is is = omega (arith, long, gap_with-reached base all at kept added r (drop (i + 1) all) here start from)

  pub IsReached-item : (kept_on added_on next : ℕ) → kept_on ≡ kept + (start - at) → added_on ≡ added + len → next ≡ max start r.range.end →
      IsReached base all next kept_on added_on (drop (i + 1) all)
  IsReached-item kept_on added_on next kept_is added_is past =
      rw (past, kept_is, added_is, long) (IsReached-step base all at kept added r (drop (i + 1) all) here start from)
