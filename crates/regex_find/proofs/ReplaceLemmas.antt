-- Replacing runs of a text: what is kept and added, and that it leads to the text with each run replaced.
use Rattle.std.proofs.Common.{◌≡◌, ◌≢◌, inl, inr, ℕ, zero, suc, ◌+◌, ◌-◌, ◌<◌, ◌≤◌, ◌==◌, Bool, true, false, not, List, [], ◌∷◌, ◌++◌, length, take, drop, refl, sym, ap, ap₂, subst, ◌∙◌, arith, append-nil, length-drop, drop-drop}
use Rattle.std.specs.Prelude.{◌&&◌, ◌||◌, if◌then◌else◌, nat_le, nat_lt}
use Rattle.std.proofs.lemmas.Bool.{and_left, and_right, and_from, or_from, or_left, cases_Bool, cases_lt, cond-true, cond-false, le-leb, lt-leb, lt-ltb, le-ltb, eq-eqb, eqb-true, ne_eqb}
use Rattle.plain_text.specs.Woven.{woven}
use Rattle.plain_text.specs.declared.run.Run.{Run}
use Rattle.plain_edits.specs.declared.delta.Added.{Added}
use Rattle.plain_edits.specs.Delta.{is_in_runs, text_at_gap}
use Rattle.plain_edits.specs.UnitDelta.{AreRuns, AreAdds, AreApart}
use Rattle.regex_find.specs.Spots.{AreSpots, run_between}
use Rattle.regex_find.specs.Replaced.{is_start, replaced_from, Replaces}
use Rattle.regex_find.specs.Inner.{rest_from, at_starts}

-- ---- indices and gaps beside the spots

spots-end : (len from : ℕ) (runs : List Run) → AreSpots len from runs → from ≤ len
spots-end len from [] are = are
spots-end len from (run ∷ runs) are = omega (arith, are.0, are.1, spots-end len run.end runs are.2)

in_run : (run : Run) (i : ℕ) → run.start ≤ i → i < run.end → (nat_le run.start i && nat_lt i run.end) ≡ true
in_run run i low high = and_from _ _ (le-leb run.start i low) (lt-ltb i run.end high)

left_of_run : (run : Run) (i : ℕ) → i < run.start → (nat_le run.start i && nat_lt i run.end) ≡ false
left_of_run run i before = and_left _ _ (lt-leb run.start i before)

past_run : (run : Run) (i : ℕ) → run.end ≤ i → (nat_le run.start i && nat_lt i run.end) ≡ false
past_run run i past = and_right _ _ (le-ltb i run.end past)

none-in : (len from : ℕ) (runs : List Run) (i : ℕ) → AreSpots len from runs → i < from → is_in_runs runs i ≡ false
none-in len from [] i are before = refl
none-in len from (run ∷ runs) i are before =
    or_from _ _ (left_of_run run i (omega (arith, are.0))) (none-in len run.end runs i are.2 (omega (arith, are.0, are.1)))

none-starts : (len from : ℕ) (runs : List Run) (gap : ℕ) → AreSpots len from runs → gap < from → is_start runs gap ≡ false
none-starts len from [] gap are before = refl
none-starts len from (run ∷ runs) gap are before =
    or_from _ _ (ne_eqb run.start gap (λ same. omega (arith, same, are.0))) (none-starts len run.end runs gap are.2 (omega (arith, are.0, are.1)))

past-in : (run : Run) (runs : List Run) (i : ℕ) → run.end ≤ i → is_in_runs (run ∷ runs) i ≡ is_in_runs runs i
past-in run runs i past = ap (λ b. b || is_in_runs runs i) (past_run run i past)

past-start : (run : Run) (runs : List Run) (gap : ℕ) → run.start < gap → is_start (run ∷ runs) gap ≡ is_start runs gap
past-start run runs gap past = ap (λ b. b || is_start runs gap) (ne_eqb run.start gap (λ same. omega (arith, same)))

-- ---- what is kept

runs-earlier : (base from to : ℕ) (runs : List Run) → from ≤ to → AreRuns base to runs → AreRuns base from runs
runs-earlier base from to [] less are = omega (arith, are)
runs-earlier base from to (run ∷ runs) less are = (omega (arith, are.0), are.1, are.2)

apart-earlier : (from to : ℕ) (runs : List Run) → from ≤ to → AreApart to runs → AreApart from runs
apart-earlier from to [] less are = tt
apart-earlier from to (run ∷ runs) less are = (omega (arith, are.0), are.1, are.2)

between-some : (start end : ℕ) → start < end → run_between start end ≡ (record { start = start; end = end }) ∷ []
between-some start end less = cond-true _ _ _ (lt-ltb start end less)

between-none : (start end : ℕ) → end ≤ start → run_between start end ≡ []
between-none start end most = cond-false _ _ _ (le-ltb start end most)

pub rest-runs : (len at : ℕ) (runs : List Run) → AreSpots len at runs → AreRuns len at (rest_from len at runs)
rest-runs len at [] are =
    elim (cases_lt at len) [
      | inl some ↦ subst (AreRuns len at) (sym (between-some at len some)) (omega arith, omega arith, omega arith)
      | inr none ↦ subst (AreRuns len at) (sym (between-none at len none)) are
    ]
rest-runs len at (run ∷ runs) are =
    let rest = rest-runs len run.end runs are.2 in
    elim (cases_lt at run.start) [
      | inl some ↦
          subst (λ front. AreRuns len at (front ++ rest_from len run.end runs)) (sym (between-some at run.start some))
          (omega arith, are.0, runs-earlier len run.start run.end (rest_from len run.end runs) (omega (arith, are.1)) rest)
      | inr none ↦
          subst (λ front. AreRuns len at (front ++ rest_from len run.end runs)) (sym (between-none at run.start none))
          (runs-earlier len at run.end (rest_from len run.end runs) (omega (arith, are.0, are.1)) rest)
    ]

pub rest-apart : (len at : ℕ) (runs : List Run) → AreSpots len at runs → AreApart at (rest_from len at runs)
rest-apart len at [] are =
    elim (cases_lt at len) [
      | inl some ↦ subst (AreApart at) (sym (between-some at len some)) (omega arith, some, tt)
      | inr none ↦ subst (AreApart at) (sym (between-none at len none)) tt
    ]
rest-apart len at (run ∷ runs) are =
    let rest = rest-apart len run.end runs are.2 in
    elim (cases_lt at run.start) [
      | inl some ↦
          subst (λ front. AreApart at (front ++ rest_from len run.end runs)) (sym (between-some at run.start some))
          (omega arith, some, apart-earlier (run.start + 1) run.end (rest_from len run.end runs) (omega (arith, are.1)) rest)
      | inr none ↦
          subst (λ front. AreApart at (front ++ rest_from len run.end runs)) (sym (between-none at run.start none))
          (apart-earlier at run.end (rest_from len run.end runs) (omega (arith, are.0, are.1)) rest)
    ]

in-between : (start end : ℕ) (runs : List Run) (i : ℕ) → is_in_runs (run_between start end ++ runs) i ≡ (nat_le start i && nat_lt i end || is_in_runs runs i)
in-between start end runs i =
    elim (cases_lt start end) [
      | inl some ↦ ap (λ front. is_in_runs (front ++ runs) i) (between-some start end some)
      | inr none ↦
          ap (λ front. is_in_runs (front ++ runs) i) (between-none start end none) ∙
          ap (λ b. b || is_in_runs runs i) (sym (outside none))
    ]
  where
    outside : end ≤ start → (nat_le start i && nat_lt i end) ≡ false
    outside none =
        elim (cases_lt i start) [
          | inl before ↦ and_left _ _ (lt-leb start i before)
          | inr after ↦ and_right _ _ (le-ltb i end (omega (arith, after, none)))
        ]

rest-none : (len at : ℕ) (runs : List Run) (i : ℕ) → AreSpots len at runs → i < at → is_in_runs (rest_from len at runs) i ≡ false
rest-none len at [] i are before =
    ap (λ rs. is_in_runs rs i) (sym (append-nil (run_between at len))) ∙ in-between at len [] i ∙
    or_from _ _ (and_left _ _ (lt-leb at i before)) refl
rest-none len at (run ∷ runs) i are before =
    in-between at run.start (rest_from len run.end runs) i ∙
    or_from _ _ (and_left _ _ (lt-leb at i before)) (rest-none len run.end runs i are.2 (omega (arith, are.0, are.1)))

-- between the text's ends it keeps what is in no run
pub rest-kept : (len at : ℕ) (runs : List Run) (i : ℕ) → AreSpots len at runs → at ≤ i → i < len → is_in_runs (rest_from len at runs) i ≡ not (is_in_runs runs i)
rest-kept len at [] i are low high =
    ap (λ rs. is_in_runs rs i) (sym (append-nil (run_between at len))) ∙ in-between at len [] i ∙
    or_left _ _ (and_from _ _ (le-leb at i low) (lt-ltb i len high))
rest-kept len at (run ∷ runs) i are low high =
    in-between at run.start (rest_from len run.end runs) i ∙
    elim (cases_lt i run.start) [
      | inl before ↦
          or_left _ _ (and_from _ _ (le-leb at i low) (lt-ltb i run.start before)) ∙
          sym (ap not (none-in len run.start (run ∷ runs) i (omega arith, are.1, are.2) before))
      | inr reached ↦
          elim (cases_lt i run.end) [
            | inl inside ↦
                or_from _ _ (and_right _ _ (le-ltb i run.start reached)) (rest-none len run.end runs i are.2 inside) ∙
                sym (ap not (or_left _ _ (in_run run i reached inside)))
            | inr past ↦
                ap (λ b. b || is_in_runs (rest_from len run.end runs) i) (and_right (nat_le at i) _ (le-ltb i run.start reached)) ∙
                rest-kept len run.end runs i are.2 past high ∙ ap not (sym (past-in run runs i past))
          ]
    ]

-- ---- what is added

adds-earlier : (base from to : ℕ) (adds : List Added) → from ≤ to → AreAdds base to adds → AreAdds base from adds
adds-earlier base from to [] less are = tt
adds-earlier base from to (added ∷ adds) less are = (omega (arith, are.0), are.1, are.2, are.3)

some-text : (c : ℕ) (new : List ℕ) → c ∷ new ≢ []
some-text c new is = absurd cc

starts-adds : (len from c : ℕ) (new : List ℕ) (runs : List Run) → AreSpots len from runs → AreAdds len from (at_starts (c ∷ new) runs)
starts-adds len from c new [] are = tt
starts-adds len from c new (run ∷ runs) are = (
  are.0,
  omega (arith, are.1, spots-end len run.end runs are.2),
  some-text c new,
  adds-earlier len (run.start + 1) run.end (at_starts (c ∷ new) runs) (omega (arith, are.1)) (starts-adds len run.end c new runs are.2),
)

pub at_starts-adds : (len : ℕ) (new : List ℕ) (runs : List Run) → AreSpots len 0 runs → AreAdds len 0 (at_starts new runs)
at_starts-adds len [] runs are = tt
at_starts-adds len (c ∷ new) runs are = starts-adds len 0 c new runs are

same-text : (b : Bool) (text : List ℕ) → (if b then text else text) ≡ text
same-text true text = refl
same-text false text = refl

starts-added : (len from c : ℕ) (new : List ℕ) (runs : List Run) (gap : ℕ) → AreSpots len from runs →
    text_at_gap (at_starts (c ∷ new) runs) gap ≡ (if is_start runs gap then c ∷ new else [])
starts-added len from c new [] gap are = refl
starts-added len from c new (run ∷ runs) gap are =
    let rest = starts-added len run.end c new runs gap are.2 in
    elim (cases_Bool (run.start == gap)) [
      | inl here ↦
          let gap_is : gap ≡ run.start = sym (eqb-same run.start gap here) in
          let none = none-starts len run.end runs gap are.2 (omega (arith, are.1, gap_is)) in
          ap₂ (λ b text. (if b then c ∷ new else []) ++ text) here (rest ∙ cond-false _ _ _ none) ∙ append-nil (c ∷ new) ∙
          sym (cond-true _ _ _ (or_left (run.start == gap) (is_start runs gap) here))
      | inr other ↦
          ap₂ (λ b text. (if b then c ∷ new else []) ++ text) other rest ∙
          ap (λ b. if b || is_start runs gap then c ∷ new else []) (sym other)
    ]
  where
    eqb-same : (a b : ℕ) → (a == b) ≡ true → a ≡ b
    eqb-same a b is = eqb-true a b is

pub at_starts-added : (len : ℕ) (new : List ℕ) (runs : List Run) (gap : ℕ) → AreSpots len 0 runs →
    text_at_gap (at_starts new runs) gap ≡ (if is_start runs gap then new else [])
at_starts-added len [] runs gap are = sym (same-text (is_start runs gap) [])
at_starts-added len (c ∷ new) runs gap are = starts-added len 0 c new runs gap are

-- ---- what it leads to

abbrev step : (ℕ → Bool) → ℕ → ℕ → List ℕ
step kept index c = if kept index then c ∷ [] else []

woven-kept : (kept : ℕ → Bool) (added : ℕ → List ℕ) (n at : ℕ) (text : List ℕ) → n ≤ length text →
    ((i : ℕ) → at ≤ i → i < at + n → kept i ≡ true) → ((gap : ℕ) → at ≤ gap → gap < at + n → added gap ≡ []) →
    woven added (step kept) at text ≡ take n text ++ woven added (step kept) (at + n) (drop n text)
woven-kept kept added zero at text inside keeps adds = let same : at ≡ at + 0 = omega arith in ap (λ k. woven added (step kept) k text) same
woven-kept kept added (suc n) at [] inside keeps adds = absurd (omega arith)
woven-kept kept added (suc n) at (c ∷ text) inside keeps adds =
    let sum : at + 1 + n ≡ at + suc n = omega arith in
    ap₂ (λ front char. front ++ (char ++ woven added (step kept) (at + 1) text)) (adds at (omega arith) (omega arith))
    (cond-true _ (c ∷ []) [] (keeps at (omega arith) (omega arith))) ∙
    ap (λ rest. c ∷ rest)
    (woven-kept kept added n (at + 1) text (omega arith) (λ i low high. keeps i (omega arith) (omega arith)) (λ gap low high. adds gap (omega arith) (omega arith))) ∙
    ap (λ k. c ∷ (take n text ++ woven added (step kept) k (drop n text))) sum

woven-dropped : (kept : ℕ → Bool) (added : ℕ → List ℕ) (n at : ℕ) (text : List ℕ) → n ≤ length text →
    ((i : ℕ) → at ≤ i → i < at + n → kept i ≡ false) → ((gap : ℕ) → at ≤ gap → gap < at + n → added gap ≡ []) →
    woven added (step kept) at text ≡ woven added (step kept) (at + n) (drop n text)
woven-dropped kept added zero at text inside keeps adds = let same : at ≡ at + 0 = omega arith in ap (λ k. woven added (step kept) k text) same
woven-dropped kept added (suc n) at [] inside keeps adds = absurd (omega arith)
woven-dropped kept added (suc n) at (c ∷ text) inside keeps adds =
    let sum : at + 1 + n ≡ at + suc n = omega arith in
    ap₂ (λ front char. front ++ (char ++ woven added (step kept) (at + 1) text)) (adds at (omega arith) (omega arith))
    (cond-false _ (c ∷ []) [] (keeps at (omega arith) (omega arith))) ∙
    woven-dropped kept added n (at + 1) text (omega arith) (λ i low high. keeps i (omega arith) (omega arith)) (λ gap low high. adds gap (omega arith) (omega arith)) ∙
    ap (λ k. woven added (step kept) k (drop n text)) sum

-- of a run the new text is left
woven-run : (kept : ℕ → Bool) (added : ℕ → List ℕ) (new : List ℕ) (n at : ℕ) (text : List ℕ) → 0 < n → n ≤ length text →
    ((i : ℕ) → at ≤ i → i < at + n → kept i ≡ false) → added at ≡ new → ((gap : ℕ) → at < gap → gap < at + n → added gap ≡ []) →
    woven added (step kept) at text ≡ new ++ woven added (step kept) (at + n) (drop n text)
woven-run kept added new zero at text some inside keeps first adds = absurd (omega arith)
woven-run kept added new (suc n) at [] some inside keeps first adds = absurd (omega arith)
woven-run kept added new (suc n) at (c ∷ text) some inside keeps first adds =
    let sum : at + 1 + n ≡ at + suc n = omega arith in
    ap₂ (λ front char. front ++ (char ++ woven added (step kept) (at + 1) text)) first
    (cond-false _ (c ∷ []) [] (keeps at (omega arith) (omega arith))) ∙
    ap (λ rest. new ++ rest)
    (woven-dropped kept added n (at + 1) text (omega arith) (λ i low high. keeps i (omega arith) (omega arith)) (λ gap low high. adds gap (omega arith) (omega arith)) ∙
    ap (λ k. woven added (step kept) k (drop n text)) sum)

woven-all : (kept : ℕ → Bool) (added : ℕ → List ℕ) (at : ℕ) (text : List ℕ) →
    ((i : ℕ) → at ≤ i → i < at + length text → kept i ≡ true) → ((gap : ℕ) → at ≤ gap → added gap ≡ []) → woven added (step kept) at text ≡ text
woven-all kept added at [] keeps adds = adds at (omega arith)
woven-all kept added at (c ∷ text) keeps adds =
    ap₂ (λ front char. front ++ (char ++ woven added (step kept) (at + 1) text)) (adds at (omega arith))
    (cond-true _ (c ∷ []) [] (keeps at (omega arith) (omega arith))) ∙
    ap (λ rest. c ∷ rest) (woven-all kept added (at + 1) text (λ i low high. keeps i (omega arith) (omega arith)) (λ gap low. adds gap (omega arith)))

pub woven-replaced : (new : List ℕ) (kept : ℕ → Bool) (added : ℕ → List ℕ) (len at : ℕ) (text : List ℕ) (runs : List Run) → len ≡ at + length text →
    AreSpots len at runs → ((i : ℕ) → at ≤ i → i < len → kept i ≡ not (is_in_runs runs i)) →
    ((gap : ℕ) → at ≤ gap → added gap ≡ (if is_start runs gap then new else [])) → woven added (step kept) at text ≡ replaced_from at text runs new
woven-replaced new kept added len at text [] long are keeps adds =
    woven-all kept added at text (λ i low high. keeps i low (omega (arith, long))) (λ gap low. adds gap low)
woven-replaced new kept added len at text (run ∷ runs) long are keeps adds =
    let end = spots-end len run.end runs are.2 in
    let before : at + (run.start - at) ≡ run.start = omega (arith, are.0) in
    let through : run.start + (run.end - run.start) ≡ run.end = omega (arith, are.1) in
    let sum : (run.start - at) + (run.end - run.start) ≡ run.end - at = omega (arith, are.0, are.1) in
    let front_long = length-drop (run.start - at) text in
    let rest_long = length-drop (run.end - at) text in
    woven-kept kept added (run.start - at) at text (omega (arith, are.0, are.1, end, long))
    (λ i low high. keeps i low (omega (arith, are.1, end)) ∙ ap not (none-in len run.start (run ∷ runs) i (omega arith, are.1, are.2) (omega (arith, before))))
    (λ gap low high. adds gap low ∙ cond-false _ _ _ (none-starts len run.start (run ∷ runs) gap (omega arith, are.1, are.2) (omega (arith, before)))) ∙
    ap (λ rest. take (run.start - at) text ++ rest)
    (ap (λ k. woven added (step kept) k (drop (run.start - at) text)) before ∙
    woven-run kept added new (run.end - run.start) run.start (drop (run.start - at) text) (omega (arith, are.1)) (omega (arith, are.0, are.1, end, long, front_long))
    (λ i low high. keeps i (omega (arith, are.0)) (omega (arith, end, through)) ∙ ap not (or_left _ _ (in_run run i low (omega (arith, through)))))
    (adds run.start are.0 ∙ cond-true _ _ _ (or_left _ _ (eq-eqb run.start run.start refl)))
    (λ gap low high. adds gap (omega (arith, are.0)) ∙
    cond-false _ _ _ (past-start run runs gap low ∙ none-starts len run.end runs gap are.2 (omega (arith, through)))) ∙
    ap (λ rest. new ++ rest)
    (ap₂ (λ k rest. woven added (step kept) k rest) through (drop-drop (run.end - run.start) (run.start - at) text ∙ ap (λ n. drop n text) sum) ∙
    woven-replaced new kept added len run.end (drop (run.end - at) text) runs (omega (arith, are.0, are.1, end, long, rest_long)) are.2
    (λ i low high. keeps i (omega (arith, are.0, are.1)) high ∙ ap not (past-in run runs i low))
    (λ gap low. adds gap (omega (arith, are.0, are.1)) ∙ ap (λ b. if b then new else []) (past-start run runs gap (omega (arith, are.1))))))

-- the edit of these parts replaces the runs
pub Replaces-parts : (text : List ℕ) (runs kept : List Run) (new : List ℕ) (added : List Added) (base : ℕ) → base ≡ length text → AreSpots (length text) 0 runs →
    kept ≡ rest_from base 0 runs → added ≡ at_starts new runs → Replaces text runs new (record { base = base; kept = kept; added = added })
Replaces-parts text runs kept new added base long are kept_is added_is =
    let spots = subst (λ n. AreSpots n 0 runs) (sym long) are in
    let keeps : (i : ℕ) → i < length text → is_in_runs kept i ≡ not (is_in_runs runs i) =
    λ i inside. ap (λ rs. is_in_runs rs i) kept_is ∙ rest-kept base 0 runs i spots (omega arith) (omega (arith, long)) in
    let adds : (gap : ℕ) → text_at_gap added gap ≡ (if is_start runs gap then new else []) =
    λ gap. ap (λ a. text_at_gap a gap) added_is ∙ at_starts-added base new runs gap spots in
    record {
      canonical = record {
        well_formed = record {
          runs = subst (AreRuns base 0) (sym kept_is) (rest-runs base 0 runs spots);
          adds = subst (AreAdds base 0) (sym added_is) (at_starts-adds base new runs spots);
        };
        apart = subst (AreApart 0) (sym kept_is) (rest-apart base 0 runs spots);
      };
      base = long;
      kept = keeps;
      added = adds;
      leads = woven-replaced new (is_in_runs kept) (text_at_gap added) (length text) 0 text runs (omega arith) are (λ i low high. keeps i high) (λ gap low. adds gap);
    }
