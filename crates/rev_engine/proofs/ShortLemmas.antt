-- An edit in bytes, in characters: the gap of a place, and the canonical form of what is found from left to right.
use Rattle.std.proofs.Common.{◌≡◌, ℕ, ◌+◌, ◌<◌, ◌≤◌, inl, inr, Bool, true, false, ◌&&◌, ◌||◌, if◌then◌else◌, nat_le, nat_lt, ◌==◌, not, unwrap_or, List, [], ◌∷◌, ◌++◌, length, take, drop, take-append-drop, append_assoc, Option, Some, None, refl, ap, ap₂, sym, subst, ◌∙◌, arith}
use Rattle.std.specs.Prelude.{IfNone, IfSome}
use Rattle.std.proofs.lemmas.Bool.{cases_eq, cases_lt, eq-eqb, le-leb, le-ltb, lt-leb, lt-ltb, ltb-false, ne_eqb}
use Rattle.plain_text.specs.declared.run.Run.{Run}
use Rattle.plain_text.specs.Text.{byte_len, gap_at, gap_of, is_place}
use Rattle.plain_text.proofs.callers.PlaceLemmas.{IsPlaced-from, gap_from-seam, gaps_rise}
use Rattle.plain_text.proofs.callers.TextLemmas.{gap_at_iff}
use Rattle.plain_edits.specs.declared.delta.Added.{Added}
use Rattle.plain_edits.specs.declared.delta.Delta.{Delta}
use Rattle.plain_edits.specs.declared.delta.El.{El}
use Rattle.plain_edits.specs.declared.delta.El.TheVariants.{Copy, Insert}
use Rattle.plain_edits.specs.declared.delta.Misfit.{Misfit}
use Rattle.plain_edits.specs.declared.delta.UnitDelta.{UnitDelta}
use Rattle.plain_edits.specs.Delta.{Fits, adds, applied, copies_misfit, copy_misfit, insertions, is_in_runs, keeps, kept_runs, or_later, text_at_gap}
use Rattle.plain_edits.specs.UnitDelta.{AreAdds, AreApart, AreRuns, unit_adds, unit_keeps}
use Rattle.delta_core.specs.Units.{IsUnitsOf}
use Rattle.rope_metrics.specs.declared.measure.Measure.TheVariants.{Bytes, Chars}
use Rattle.rope_metrics.specs.Measure.{HasNone, IsConverted}
use Rattle.rev_engine.specs.Joined.{joined_adds, joined_runs, with_run, with_text}

-- ---- the gap of a place

pub gap_at-converted : (text : List ℕ) (at : ℕ) (found : Option ℕ) → IfSome found (λ offset. IsConverted Bytes Chars text at offset) →
    IfNone found (HasNone Bytes text at) → found ≡ gap_at text at
gap_at-converted text at (Some offset) some none =
    ap Some some.is ∙
    sym (ap₂ (λ t n. gap_at t n) some.cut.cut (sym some.cut.ends) ∙ gap_from-seam 0 some.front some.back ∙
    (let start : 0 + length some.front ≡ length some.front = omega arith in ap Some start))
gap_at-converted text at None some none = go (gap_at text at) refl
  where
    go : (found : Option ℕ) → gap_at text at ≡ found → None ≡ found
    go None is = refl
    go (Some gap) is = absurd (none (take gap text) (drop gap text) (sym (take-append-drop gap text)) ((gap_at_iff text at gap).0 is).1)

-- ---- the copies of a delta that fits

if_none : (b : Bool) (misfit : Misfit) (later : Option Misfit) → (if b then Some misfit else later) ≡ None → (b ≡ false) × (later ≡ None)
if_none true misfit later none = absurd cc
if_none false misfit later none = (refl, none)

is_true : (b : Bool) → not b ≡ false → b ≡ true
is_true true e = refl
is_true false e = absurd cc

or_none : (b c : Bool) → (b || c) ≡ false → (b ≡ false) × (c ≡ false)
or_none true c e = absurd cc
or_none false c e = (refl, e)

later_none : (first later : Option Misfit) → or_later first later ≡ None → (first ≡ None) × (later ≡ None)
later_none None later none = (refl, none)
later_none (Some misfit) later none = absurd cc

pub record CopyFits (text : List ℕ) (end a b : ℕ) : Type 0 where
  pub after : end ≤ a
  pub rises : a ≤ b
  pub start : is_place text a ≡ true
  pub stop : is_place text b ≡ true

copy-fits : (text : List ℕ) (end a b : ℕ) → copy_misfit text end a b ≡ None → CopyFits text end a b
copy-fits text end a b none =
    let order = if_none (nat_lt b a || nat_lt a end) _ _ none in
    let both = or_none (nat_lt b a) (nat_lt a end) order.0 in
    let within = if_none (nat_lt (byte_len text) b) _ _ order.1 in
    let starts = if_none (not (is_place text a)) _ _ within.1 in
    let stops = if_none (not (is_place text b)) _ _ starts.1 in
    record {
      after = ltb-false a end both.1;
      rises = ltb-false b a both.0;
      start = is_true (is_place text a) starts.0;
      stop = is_true (is_place text b) stops.0;
    }

gap_of-rises : (text : List ℕ) (a b : ℕ) → is_place text a ≡ true → is_place text b ≡ true → a ≤ b → gap_of text a ≤ gap_of text b
gap_of-rises text a b start stop rises =
    let one = IsPlaced-from text a start in
    let other = IsPlaced-from text b stop in
    omega (arith, gaps_rise text a b one.0 other.0 one.1 other.1 rises, one.1.of, other.1.of)

gap_of-le : (text : List ℕ) (at : ℕ) → gap_of text at ≤ length text
gap_of-le text at = go (gap_at text at) refl
  where
    go : (found : Option ℕ) → gap_at text at ≡ found → unwrap_or found 0 ≤ length text
    go None is = omega arith
    go (Some gap) is = ((gap_at_iff text at gap).0 is).0

-- its runs rise, and the gaps of its insertions
pub AreRuns-kept : (text : List ℕ) (end : ℕ) (els : List El) → is_place text end ≡ true → copies_misfit text end els ≡ None →
    AreRuns (length text) (gap_of text end) (kept_runs text els)
AreRuns-kept text end [] place fits = gap_of-le text end
AreRuns-kept text end (Insert more ∷ els) place fits = AreRuns-kept text end els place fits
AreRuns-kept text end (Copy a b ∷ els) place fits =
    let parts = later_none (copy_misfit text end a b) (copies_misfit text b els) fits in
    let good = copy-fits text end a b parts.0 in (
      gap_of-rises text end a place good.start good.after,
      gap_of-rises text a b good.start good.stop good.rises,
      AreRuns-kept text b els good.stop parts.1,
    )

-- the gaps rise, and none is past the base; texts may be empty, and stand at one gap
abbrev pub Rise : ℕ → ℕ → List Added → Type 0
Rise base from [] = from ≤ base
Rise base from (added ∷ adds) = (from ≤ added.gap) × Rise base added.gap adds

Rise-le : (base from : ℕ) (adds : List Added) → Rise base from adds → from ≤ base
Rise-le base from [] rise = rise
Rise-le base from (added ∷ adds) rise = omega (arith, rise.0, Rise-le base added.gap adds rise.1)

Rise-more : (base from more : ℕ) (adds : List Added) → from ≤ more → more ≤ base → Rise base more adds → Rise base from adds
Rise-more base from more [] less within rise = omega (arith, less, within)
Rise-more base from more (added ∷ adds) less within rise = (omega (arith, less, rise.0), rise.1)

pub Rise-insertions : (text : List ℕ) (end : ℕ) (els : List El) → is_place text end ≡ true → copies_misfit text end els ≡ None →
    Rise (length text) (gap_of text end) (insertions text (gap_of text end) els)
Rise-insertions text end [] place fits = gap_of-le text end
Rise-insertions text end (Insert more ∷ els) place fits = (omega arith, Rise-insertions text end els place fits)
Rise-insertions text end (Copy a b ∷ els) place fits =
    let parts = later_none (copy_misfit text end a b) (copies_misfit text b els) fits in
    let good = copy-fits text end a b parts.0 in
    Rise-more (length text) (gap_of text end) (gap_of text b) (insertions text (gap_of text b) els)
    (omega (arith, gap_of-rises text end a place good.start good.after, gap_of-rises text a b good.start good.stop good.rises))
    (gap_of-le text b) (Rise-insertions text b els good.stop parts.1)

-- ---- the runs in canonical form

abbrev within_run : ℕ → ℕ → ℕ → Bool
within_run from to i = nat_le from i && nat_lt i to

and-none : (b : Bool) → (b && false) ≡ false
and-none true = refl
and-none false = refl

with_run-less : (from to : ℕ) (runs : List Run) → from < to → with_run from to runs ≡ record { start = from; end = to } ∷ runs
with_run-less from to runs less = ap (λ b. if b then record { start = from; end = to } ∷ runs else runs) (lt-ltb from to less)

with_run-none : (from to : ℕ) (runs : List Run) → to ≤ from → with_run from to runs ≡ runs
with_run-none from to runs none = ap (λ b. if b then record { start = from; end = to } ∷ runs else runs) (le-ltb from to none)

run-none : (from to i : ℕ) → to ≤ from → within_run from to i ≡ false
run-none from to i none =
    elim (cases_lt i from) [
      | inl below ↦ ap (λ b. b && nat_lt i to) (lt-leb from i below)
      | inr past ↦ ap (λ b. nat_le from i && b) (le-ltb i to (omega (arith, none, past))) ∙ and-none (nat_le from i)
    ]

kept-with : (from to : ℕ) (runs : List Run) (i : ℕ) → is_in_runs (with_run from to runs) i ≡ (within_run from to i || is_in_runs runs i)
kept-with from to runs i =
    elim (cases_lt from to) [
      | inl less ↦ ap (λ rs. is_in_runs rs i) (with_run-less from to runs less)
      | inr none ↦ ap (λ rs. is_in_runs rs i) (with_run-none from to runs none) ∙ ap (λ b. b || is_in_runs runs i) (sym (run-none from to i none))
    ]

-- two runs that touch are one
touching : (from to end i : ℕ) (rest : Bool) → from ≤ to → to ≤ end →
    (within_run from end i || rest) ≡ (within_run from to i || (within_run to end i || rest))
touching from to end i rest one two =
    elim (cases_lt i from) [
      | inl below ↦
          ap (λ b. (b && nat_lt i end) || rest) (lt-leb from i below) ∙
          sym (ap₂ (λ b c. (b && nat_lt i to) || ((c && nat_lt i end) || rest)) (lt-leb from i below) (lt-leb to i (omega (arith, below, one))))
      | inr past ↦
          elim (cases_lt i to) [
            | inl inside ↦
                ap₂ (λ b c. (b && c) || rest) (le-leb from i past) (lt-ltb i end (omega (arith, inside, two))) ∙
                sym (ap₂ (λ b c. (b && c) || (within_run to end i || rest)) (le-leb from i past) (lt-ltb i to inside))
            | inr right ↦
                ap (λ b. (b && nat_lt i end) || rest) (le-leb from i past) ∙
                sym (ap₂ (λ b c. (b && c) || (within_run to end i || rest)) (le-leb from i past) (le-ltb i to right) ∙
                ap (λ b. (b && nat_lt i end) || rest) (le-leb to i right))
          ]
    ]

kept-joined : (base from to : ℕ) (runs : List Run) (i : ℕ) → from ≤ to → AreRuns base to runs →
    is_in_runs (joined_runs from to runs) i ≡ (within_run from to i || is_in_runs runs i)
kept-joined base from to [] i order are = kept-with from to [] i
kept-joined base from to (run ∷ runs) i order are =
    elim (cases_lt to run.start) [
      | inl apart ↦
          ap (λ b. is_in_runs (if b then with_run from to (joined_runs run.start run.end runs) else joined_runs from run.end runs) i) (lt-ltb to run.start apart) ∙
          kept-with from to (joined_runs run.start run.end runs) i ∙
          ap (λ b. within_run from to i || b) (kept-joined base run.start run.end runs i are.1 are.2)
      | inr touch ↦
          let same : to ≡ run.start = omega (arith, touch, are.0) in
          ap (λ b. is_in_runs (if b then with_run from to (joined_runs run.start run.end runs) else joined_runs from run.end runs) i) (le-ltb to run.start touch) ∙
          kept-joined base from run.end runs i (omega (arith, order, are.0, are.1)) are.2 ∙
          touching from to run.end i (is_in_runs runs i) order (omega (arith, same, are.1)) ∙
          ap (λ n. within_run from to i || (within_run n run.end i || is_in_runs runs i)) same
    ]

with-apart : (low from to : ℕ) (runs : List Run) → low ≤ from → AreApart (to + 1) runs → AreApart low runs → AreApart low (with_run from to runs)
with-apart low from to runs above next here =
    elim (cases_lt from to) [
      | inl less ↦ subst (AreApart low) (sym (with_run-less from to runs less)) (above, less, next)
      | inr none ↦ subst (AreApart low) (sym (with_run-none from to runs none)) here
    ]

pub apart-joined : (base low from to : ℕ) (runs : List Run) → low ≤ from → from ≤ to → AreRuns base to runs → AreApart low (joined_runs from to runs)
apart-joined base low from to [] above order are = with-apart low from to [] above tt tt
apart-joined base low from to (run ∷ runs) above order are =
    elim (cases_lt to run.start) [
      | inl apart ↦
          subst (λ b. AreApart low (if b then with_run from to (joined_runs run.start run.end runs) else joined_runs from run.end runs))
          (sym (lt-ltb to run.start apart))
          (with-apart low from to (joined_runs run.start run.end runs) above
          (apart-joined base (to + 1) run.start run.end runs (omega (arith, apart)) are.1 are.2)
          (apart-joined base low run.start run.end runs (omega (arith, above, order, apart)) are.1 are.2))
      | inr touch ↦
          subst (λ b. AreApart low (if b then with_run from to (joined_runs run.start run.end runs) else joined_runs from run.end runs))
          (sym (le-ltb to run.start touch))
          (apart-joined base low from run.end runs above (omega (arith, order, are.0, are.1)) are.2)
    ]

with-rising : (base low from to : ℕ) (runs : List Run) → low ≤ from → AreRuns base to runs → AreRuns base low runs → AreRuns base low (with_run from to runs)
with-rising base low from to runs above next here =
    elim (cases_lt from to) [
      | inl less ↦ subst (AreRuns base low) (sym (with_run-less from to runs less)) (above, omega (arith, less), next)
      | inr none ↦ subst (AreRuns base low) (sym (with_run-none from to runs none)) here
    ]

runs-le : (base from : ℕ) (runs : List Run) → AreRuns base from runs → from ≤ base
runs-le base from [] are = are
runs-le base from (run ∷ runs) are = omega (arith, are.0, are.1, runs-le base run.end runs are.2)

pub rising-joined : (base low from to : ℕ) (runs : List Run) → low ≤ from → from ≤ to → AreRuns base to runs → AreRuns base low (joined_runs from to runs)
rising-joined base low from to [] above order are = with-rising base low from to [] above are (omega (arith, above, order, are))
rising-joined base low from to (run ∷ runs) above order are =
    elim (cases_lt to run.start) [
      | inl apart ↦
          subst (λ b. AreRuns base low (if b then with_run from to (joined_runs run.start run.end runs) else joined_runs from run.end runs))
          (sym (lt-ltb to run.start apart))
          (with-rising base low from to (joined_runs run.start run.end runs) above
          (rising-joined base to run.start run.end runs are.0 are.1 are.2)
          (rising-joined base low run.start run.end runs (omega (arith, above, order, apart)) are.1 are.2))
      | inr touch ↦
          subst (λ b. AreRuns base low (if b then with_run from to (joined_runs run.start run.end runs) else joined_runs from run.end runs))
          (sym (le-ltb to run.start touch))
          (rising-joined base low from run.end runs above (omega (arith, order, are.0, are.1)) are.2)
    ]

-- ---- the additions in canonical form

added-with : (gap : ℕ) (text : List ℕ) (adds : List Added) (k : ℕ) →
    text_at_gap (with_text gap text adds) k ≡ (if gap == k then text else []) ++ text_at_gap adds k
added-with gap [] adds k =
    elim (cases_eq gap k) [
      | inl same ↦ sym (ap (λ b. (if b then [] else []) ++ text_at_gap adds k) (eq-eqb gap k same))
      | inr other ↦ sym (ap (λ b. (if b then [] else []) ++ text_at_gap adds k) (ne_eqb gap k other))
    ]
added-with gap (c ∷ text) adds k = refl

two-texts : (b : Bool) (one two rest : List ℕ) → (if b then one ++ two else []) ++ rest ≡ (if b then one else []) ++ ((if b then two else []) ++ rest)
two-texts true one two rest = append_assoc one two rest
two-texts false one two rest = refl

pub added-joined : (gap : ℕ) (text : List ℕ) (adds : List Added) (k : ℕ) →
    text_at_gap (joined_adds gap text adds) k ≡ (if gap == k then text else []) ++ text_at_gap adds k
added-joined gap text [] k = added-with gap text [] k
added-joined gap text (added ∷ adds) k =
    elim (cases_eq added.gap gap) [
      | inl same ↦
          ap (λ b. text_at_gap (if b then joined_adds gap (text ++ added.text) adds else with_text gap text (joined_adds added.gap added.text adds)) k)
          (eq-eqb added.gap gap same) ∙
          added-joined gap (text ++ added.text) adds k ∙ two-texts (gap == k) text added.text (text_at_gap adds k) ∙
          ap (λ g. (if gap == k then text else []) ++ ((if g == k then added.text else []) ++ text_at_gap adds k)) (sym same)
      | inr other ↦
          ap (λ b. text_at_gap (if b then joined_adds gap (text ++ added.text) adds else with_text gap text (joined_adds added.gap added.text adds)) k)
          (ne_eqb added.gap gap other) ∙
          added-with gap text (joined_adds added.gap added.text adds) k ∙
          ap (λ rest. (if gap == k then text else []) ++ rest) (added-joined added.gap added.text adds k)
    ]

with-adds : (base low gap : ℕ) (text : List ℕ) (adds : List Added) → low ≤ gap → gap ≤ base → AreAdds base (gap + 1) adds → AreAdds base low adds →
    AreAdds base low (with_text gap text adds)
with-adds base low gap [] adds above within next here = here
with-adds base low gap (c ∷ text) adds above within next here = (above, within, λ none. absurd cc, next)

pub adds-joined : (base low gap : ℕ) (text : List ℕ) (adds : List Added) → low ≤ gap → Rise base gap adds → AreAdds base low (joined_adds gap text adds)
adds-joined base low gap text [] above rise = with-adds base low gap text [] above rise tt tt
adds-joined base low gap text (added ∷ adds) above rise =
    elim (cases_eq added.gap gap) [
      | inl same ↦
          subst (λ b. AreAdds base low (if b then joined_adds gap (text ++ added.text) adds else with_text gap text (joined_adds added.gap added.text adds)))
          (sym (eq-eqb added.gap gap same))
          (adds-joined base low gap (text ++ added.text) adds above (subst (λ g. Rise base g adds) same rise.1))
      | inr other ↦
          subst (λ b. AreAdds base low (if b then joined_adds gap (text ++ added.text) adds else with_text gap text (joined_adds added.gap added.text adds)))
          (sym (ne_eqb added.gap gap other))
          (with-adds base low gap text (joined_adds added.gap added.text adds) above (omega (arith, rise.0, Rise-le base added.gap adds rise.1))
          (adds-joined base (gap + 1) added.gap added.text adds (omega (arith, rise.0, other)) rise.1)
          (adds-joined base low added.gap added.text adds (omega (arith, above, rise.0)) rise.1))
    ]

-- ---- the delta in characters

starts : (text : List ℕ) → (is_place text 0 ≡ true) × (gap_of text 0 ≡ 0)
starts [] = (refl, refl)
starts (c ∷ text) = (refl, refl)

copies_fit : (text : List ℕ) (delta : Delta) → Fits text delta → copies_misfit text 0 delta.els ≡ None
copies_fit text delta fits = go (delta.base_len == byte_len text) fits
  where
    go : (b : Bool) → (if b then copies_misfit text 0 delta.els else Some (record { kind = 1; at = delta.base_len })) ≡ None →
        copies_misfit text 0 delta.els ≡ None
    go true is = is
    go false is = absurd cc

run-start : (i : ℕ) (rest : Bool) → (within_run 0 0 i || rest) ≡ rest
run-start i rest = ap (λ b. b || rest) (run-none 0 0 i (omega arith))

text-start : (k : ℕ) (rest : List ℕ) → (if 0 == k then [] else []) ++ rest ≡ rest
text-start k rest = go (0 == k)
  where
    go : (b : Bool) → (if b then [] else []) ++ rest ≡ rest
    go true = refl
    go false = refl

pub IsUnitsOf-joined : (text : List ℕ) (delta : Delta) (units : UnitDelta) → Fits text delta → units.base ≡ length text →
    units.kept ≡ joined_runs 0 0 (kept_runs text delta.els) → units.added ≡ joined_adds 0 [] (insertions text 0 delta.els) → IsUnitsOf text delta units
IsUnitsOf-joined text delta units fits base_is kept_is added_is = record {
  canonical = record {
    well_formed = record {
      runs = rw (base_is, kept_is) (rising-joined (length text) 0 0 0 (kept_runs text delta.els) (omega arith) (omega arith) runs);
      adds = rw (base_is, added_is) (adds-joined (length text) 0 0 [] (insertions text 0 delta.els) (omega arith) rise);
    };
    apart = rw kept_is (apart-joined (length text) 0 0 0 (kept_runs text delta.els) (omega arith) (omega arith) runs);
  };
  base = base_is;
  kept = kept;
  added = added;
  leads = λ i. applied (λ index. kept index i) (λ gap. added gap i) text;
}
  where
    fit : copies_misfit text 0 delta.els ≡ None
    fit = copies_fit text delta fits

    runs : AreRuns (length text) 0 (kept_runs text delta.els)
    runs = subst (λ n. AreRuns (length text) n (kept_runs text delta.els)) (starts text).1 (AreRuns-kept text 0 delta.els (starts text).0 fit)

    rise : Rise (length text) 0 (insertions text 0 delta.els)
    rise = subst (λ n. Rise (length text) n (insertions text n delta.els)) (starts text).1 (Rise-insertions text 0 delta.els (starts text).0 fit)

    kept : (index : ℕ) → unit_keeps units index ≡ keeps text delta index
    kept index =
        ap (λ rs. is_in_runs rs index) kept_is ∙ kept-joined (length text) 0 0 (kept_runs text delta.els) index (omega arith) runs ∙
        run-start index (is_in_runs (kept_runs text delta.els) index)

    added : (gap : ℕ) → unit_adds units gap ≡ adds text delta gap
    added gap =
        ap (λ xs. text_at_gap xs gap) added_is ∙ added-joined 0 [] (insertions text 0 delta.els) gap ∙
        text-start gap (text_at_gap (insertions text 0 delta.els) gap)
