-- The delta on the wire of a unit delta fits, and keeps and adds the same.
use Rattle.std.proofs.Common.{◌≡◌, ◌≢◌, ℕ, true, false, Bool, ◌+◌, ◌<◌, ◌≤◌, List, [], ◌∷◌, ◌++◌, length, append-nil, refl, ap, ap₂, sym, ◌∙◌, arith, ⊎_elim, length-append}
use Rattle.std.specs.Prelude.{if◌then◌else◌, nat_le, nat_lt, ◌==◌, ◌&&◌}
use Rattle.std.specs.Char.{len_utf8}
use Rattle.std.proofs.lemmas.Str.{len_utf8_bounds}
use Rattle.std.proofs.lemmas.Bool.{cases_eq, cases_lt, le-leb, le-ltb, lt-ltb}
use Rattle.std.proofs.lemmas.Bool.Decides.{nat_tests}
use Rattle.plain_text.specs.declared.run.Run.{Run}
use Rattle.plain_edits.specs.declared.delta.Added.{Added}
use Rattle.plain_edits.specs.declared.delta.El.{El}
use Rattle.plain_edits.specs.declared.delta.El.TheVariants.{Copy, Insert}
use Rattle.plain_edits.specs.declared.delta.UnitDelta.{UnitDelta}
use Rattle.plain_text.specs.Text.{byte_len, gap_of}
use Rattle.plain_text.specs.Woven.{woven}
use Rattle.plain_edits.specs.declared.delta.Delta.{Delta}
use Rattle.plain_edits.specs.Delta.{applied, copies_misfit, is_in_runs, text_at_gap, kept_runs, insertions, keeps, adds, Fits}
use Rattle.plain_edits.specs.UnitDelta.{AreRuns, AreAdds, IsCanonical, IsUnitDelta, unit_keeps, unit_adds}
use Rattle.delta_core.specs.Units.{IsUnitsOf}
use Rattle.delta_core.specs.UnitStep.{UnitStep}
use Rattle.delta_core.specs.Inner.{Gathered, run_to, with_copy}
use Rattle.delta_core.specs.Wire.{copy_before}
use Rattle.delta_core.specs.Elements.{IsDeltaOf, delta_by, delta_of, elements_from, fixed_before}
use Rattle.delta_core.proofs.UnitLemmas.{CopyFits, CopyFits-from, applied-same, place_within}
use Rattle.delta_core.proofs.WireLemmas.{copy_before-nil, copy_before-touching, copy_before-apart, copy_before-text}
use Rattle.delta_core.proofs.WireLaws.{CopyFits-cut, CopyFits-to, FitFrom, FitFrom-either, IsCut, IsCut-next, IsCut-start, gap_of-cut, in_run, left_of_run, place_of-cut, right_of_run, rises}
use Rattle.delta_core.proofs.ElementsLemmas.{IsPutting, element_steps}

-- ---- fitting

FitFrom-fixed : (text front back more : List ℕ) (at : ℕ) (els : List El) → IsCut text front back at → FitFrom text at els → FitFrom text at (fixed_before at more els)
FitFrom-fixed text front back [] at els cut fit = fit
FitFrom-fixed text front back (c ∷ more) at els cut fit = λ end low.
    let place = place_of-cut text front back at cut in
    CopyFits-to text end at at (Insert (c ∷ more) ∷ els)
    (record { after = low; rises = omega arith; within = place_within text at place; start = place; stop = place }) (fit at (omega arith))

FitFrom-elements : (k : ℕ → Bool) (f : ℕ → List ℕ) (text front back : List ℕ) (gap at : ℕ) → IsCut text front back at → FitFrom text at (elements_from k f gap at back)
FitFrom-elements k f text front [] gap at cut = FitFrom-fixed text front [] (f gap) at [] cut (λ end low. refl)
FitFrom-elements k f text front (c ∷ back) gap at cut =
    let next = IsCut-next text front back c at cut in
    let rest = FitFrom-elements k f text (front ++ c ∷ []) back (gap + 1) (at + len_utf8 c) next in
    let wide = (len_utf8_bounds c).0 in
    FitFrom-fixed text front (c ∷ back) (f gap) at _ cut
    (FitFrom-either (k gap) text at (at + len_utf8 c) (elements_from k f (gap + 1) (at + len_utf8 c) back) (omega arith) (CopyFits-cut text front back c at cut) rest)

pub Fits-elements : (k : ℕ → Bool) (f : ℕ → List ℕ) (text : List ℕ) → Fits text (delta_by k f text)
Fits-elements k f text =
    let same : (byte_len text == byte_len text) ≡ true = grind (arith, nat_tests) in
    rw same (FitFrom-elements k f text [] text 0 0 (IsCut-start text) 0 (omega arith))

-- ---- what the elements keep

joined_runs : (g h i index : ℕ) (runs : List Run) → g ≤ h → h ≤ i → is_in_runs (run_to g i ∷ runs) index ≡ is_in_runs (run_to g h ∷ run_to h i ∷ runs) index
joined_runs g h i index runs one two =
    ⊎_elim (λ (left : index < h).
    ⊎_elim (λ (before : index < g).
    left_of_run g i index runs before ∙ sym (left_of_run g h index (run_to h i ∷ runs) before ∙ left_of_run h i index runs left))
    (λ (inside : g ≤ index). in_run g i index runs inside (omega arith) ∙ sym (in_run g h index (run_to h i ∷ runs) inside left)) (cases_lt index g))
    (λ (right : h ≤ index).
    ⊎_elim (λ (inside : index < i).
    in_run g i index runs (omega arith) inside ∙ sym (right_of_run g h index (run_to h i ∷ runs) right ∙ in_run h i index runs right inside))
    (λ (past : i ≤ index).
    right_of_run g i index runs past ∙ sym (right_of_run g h index (run_to h i ∷ runs) right ∙ right_of_run h i index runs past)) (cases_lt index i))
    (cases_lt index h)

empty_run : (g index : ℕ) (runs : List Run) → is_in_runs (run_to g g ∷ runs) index ≡ is_in_runs runs index
empty_run g index runs =
    ⊎_elim (λ (left : index < g). left_of_run g g index runs left) (λ (right : g ≤ index). right_of_run g g index runs right) (cases_lt index g)

kept-fixed : (text more : List ℕ) (at index : ℕ) (els : List El) → is_in_runs (kept_runs text (fixed_before at more els)) index ≡ is_in_runs (kept_runs text els) index
kept-fixed text [] at index els = refl
kept-fixed text (c ∷ more) at index els = empty_run (gap_of text at) index (kept_runs text els)

kept-copy : (text : List ℕ) (a b index : ℕ) (els : List El) → a ≢ b → CopyFits text a a b → FitFrom text b els →
    is_in_runs (kept_runs text (copy_before a b els)) index ≡ is_in_runs (run_to (gap_of text a) (gap_of text b) ∷ kept_runs text els) index
kept-copy text a b index [] some good fit = ap (λ xs. is_in_runs (kept_runs text xs) index) (copy_before-nil a b some)
kept-copy text a b index (Insert more ∷ els) some good fit = ap (λ xs. is_in_runs (kept_runs text xs) index) (copy_before-text a b more els some)
kept-copy text a b index (Copy c d ∷ els) some good fit =
    ⊎_elim (λ (same : b ≡ c).
    let next = CopyFits-from text b b d els (ap (λ k. copies_misfit text b (Copy k d ∷ els)) same ∙ fit b (omega arith)) in
    ap (λ xs. is_in_runs (kept_runs text xs) index) (ap (λ k. copy_before a b (Copy k d ∷ els)) (sym same) ∙ copy_before-touching a b d els some) ∙
    joined_runs (gap_of text a) (gap_of text b) (gap_of text d) index (kept_runs text els) (rises text a b good.start good.stop good.rises)
    (rises text b d good.stop next.0.stop next.0.rises) ∙
    ap (λ k. is_in_runs (run_to (gap_of text a) (gap_of text b) ∷ kept_runs text (Copy k d ∷ els)) index) same)
    (λ (apart : b ≢ c). ap (λ xs. is_in_runs (kept_runs text xs) index) (copy_before-apart a b c d els some apart)) (cases_eq b c)

-- one more character, which is kept or not
one_more : (b : Bool) (k : ℕ → Bool) (gap index : ℕ) (runs : List Run) → k gap ≡ b → is_in_runs runs index ≡ (nat_le (gap + 1) index && k index) →
    (if b then is_in_runs (run_to gap (gap + 1) ∷ runs) index else is_in_runs runs index) ≡ (nat_le gap index && k index)
one_more true k gap index runs is rest =
    ⊎_elim (λ (same : gap ≡ index).
    let reached : nat_le gap index ≡ true = grind (arith, nat_tests) in
    in_run gap (gap + 1) index runs (omega arith) (omega arith) ∙ sym (ap (λ x. x && k index) reached ∙ (ap k (sym same) ∙ is)))
    (λ (other : gap ≢ index).
    let reached : nat_le (gap + 1) index ≡ nat_le gap index = grind (arith, nat_tests) in
    beside other ∙ rest ∙ ap (λ x. x && k index) reached) (cases_eq gap index)
  where
    beside : gap ≢ index → is_in_runs (run_to gap (gap + 1) ∷ runs) index ≡ is_in_runs runs index
    beside other =
        ⊎_elim (λ (left : index < gap). left_of_run gap (gap + 1) index runs left)
        (λ (right : gap ≤ index). right_of_run gap (gap + 1) index runs (omega arith)) (cases_lt index gap)
one_more false k gap index runs is rest =
    ⊎_elim (λ (same : gap ≡ index).
    let not_kept : k index ≡ false = ap k (sym same) ∙ is in
    rest ∙ (ap (λ x. nat_le (gap + 1) index && x) not_kept ∙ none (nat_le (gap + 1) index)) ∙
    sym (ap (λ x. nat_le gap index && x) not_kept ∙ none (nat_le gap index)))
    (λ (other : gap ≢ index).
    let reached : nat_le (gap + 1) index ≡ nat_le gap index = grind (arith, nat_tests) in
    rest ∙ ap (λ x. x && k index) reached) (cases_eq gap index)
  where
    none : (x : Bool) → (x && false) ≡ false
    none true = refl
    none false = refl

kept-either : (b : Bool) (text : List ℕ) (at next index : ℕ) (els : List El) → at < next → CopyFits text at at next → FitFrom text next els →
    is_in_runs (kept_runs text (if b then copy_before at next els else els)) index ≡
    (if b then is_in_runs (run_to (gap_of text at) (gap_of text next) ∷ kept_runs text els) index else is_in_runs (kept_runs text els) index)
kept-either true text at next index els less good fit = kept-copy text at next index els (omega arith) good fit
kept-either false text at next index els less good fit = refl

kept-elements : (k : ℕ → Bool) (f : ℕ → List ℕ) (text front back : List ℕ) (gap at : ℕ) → IsCut text front back at → gap ≡ length front →
    ((index : ℕ) → length text ≤ index → k index ≡ false) → (index : ℕ) →
    is_in_runs (kept_runs text (elements_from k f gap at back)) index ≡ (nat_le gap index && k index)
kept-elements k f text front [] gap at cut is none index =
    kept-fixed text (f gap) at index [] ∙
    ⊎_elim (λ (left : index < gap).
    let behind : nat_le gap index ≡ false = grind (arith, nat_tests) in rw behind refl)
    (λ (right : gap ≤ index).
    let reached : nat_le gap index ≡ true = grind (arith, nat_tests) in
    rw reached (sym (none index (omega (arith, is, ap length cut.whole, length-append front []))))) (cases_lt index gap)
kept-elements k f text front (c ∷ back) gap at cut is none index =
    let next = IsCut-next text front back c at cut in
    let wide = (len_utf8_bounds c).0 in
    let long : gap + 1 ≡ length (front ++ c ∷ []) = omega (arith, is, length-append front (c ∷ [])) in
    let els = elements_from k f (gap + 1) (at + len_utf8 c) back in
    let rest = kept-elements k f text (front ++ c ∷ []) back (gap + 1) (at + len_utf8 c) next long none index in
    let start : gap_of text at ≡ gap = gap_of-cut text front (c ∷ back) at cut ∙ sym is in
    let stop : gap_of text (at + len_utf8 c) ≡ gap + 1 = gap_of-cut text (front ++ c ∷ []) back (at + len_utf8 c) next ∙ sym long in
    kept-fixed text (f gap) at index _ ∙
    (kept-either (k gap) text at (at + len_utf8 c) index els (omega arith) (CopyFits-cut text front back c at cut)
    (FitFrom-elements k f text (front ++ c ∷ []) back (gap + 1) (at + len_utf8 c) next) ∙
    rw (start, stop) (one_more (k gap) k gap index (kept_runs text els) refl rest))

-- ---- what they add

neither : (b : Bool) (more : List ℕ) → more ≡ [] → (if b then more else []) ≡ []
neither true more none = none
neither false more none = refl

added-fixed : (text more there : List ℕ) (at from gap : ℕ) (els : List El) → ((g : ℕ) → text_at_gap (insertions text g els) gap ≡ there) →
    text_at_gap (insertions text from (fixed_before at more els)) gap ≡ (if gap_of text at == gap then more else []) ++ there
added-fixed text [] there at from gap els rest = rest from ∙ ap (λ t. t ++ there) (sym (neither (gap_of text at == gap) [] refl))
added-fixed text (c ∷ more) there at from gap els rest = ap (λ t. (if gap_of text at == gap then c ∷ more else []) ++ t) (rest (gap_of text at))

added-copy : (text there : List ℕ) (a b from gap : ℕ) (els : List El) → a ≢ b → ((g : ℕ) → text_at_gap (insertions text g els) gap ≡ there) →
    text_at_gap (insertions text from (copy_before a b els)) gap ≡ there
added-copy text there a b from gap [] some rest = ap (λ xs. text_at_gap (insertions text from xs) gap) (copy_before-nil a b some) ∙ rest (gap_of text b)
added-copy text there a b from gap (Insert more ∷ els) some rest =
    ap (λ xs. text_at_gap (insertions text from xs) gap) (copy_before-text a b more els some) ∙ rest (gap_of text b)
added-copy text there a b from gap (Copy c d ∷ els) some rest =
    ⊎_elim (λ (same : b ≡ c).
    ap (λ xs. text_at_gap (insertions text from xs) gap) (ap (λ k. copy_before a b (Copy k d ∷ els)) (sym same) ∙ copy_before-touching a b d els some) ∙ rest from)
    (λ (apart : b ≢ c).
    ap (λ xs. text_at_gap (insertions text from xs) gap) (copy_before-apart a b c d els some apart) ∙ rest from) (cases_eq b c)

added-either : (b : Bool) (text there : List ℕ) (at next from gap : ℕ) (els : List El) → at < next → ((g : ℕ) → text_at_gap (insertions text g els) gap ≡ there) →
    text_at_gap (insertions text from (if b then copy_before at next els else els)) gap ≡ there
added-either true text there at next from gap els less rest = added-copy text there at next from gap els (omega arith) rest
added-either false text there at next from gap els less rest = rest from

-- the text of one more gap
one_gap : (f : ℕ → List ℕ) (here gap : ℕ) → (if here == gap then f here else []) ++ (if nat_le (here + 1) gap then f gap else []) ≡ (if nat_le here gap then f gap else [])
one_gap f here gap =
    ⊎_elim (λ (same : here ≡ gap).
    let one : (here == gap) ≡ true = grind (arith, nat_tests) in
    let behind : nat_le (here + 1) gap ≡ false = grind (arith, nat_tests) in
    let reached : nat_le here gap ≡ true = grind (arith, nat_tests) in
    rw (one, behind, reached) (append-nil (f here) ∙ ap f same))
    (λ (other : here ≢ gap).
    let one : (here == gap) ≡ false = grind (arith, nat_tests) in
    let past : nat_le (here + 1) gap ≡ nat_le here gap = grind (arith, nat_tests) in
    rw (one, past) refl) (cases_eq here gap)

added-elements : (k : ℕ → Bool) (f : ℕ → List ℕ) (text front back : List ℕ) (here at : ℕ) → IsCut text front back at → here ≡ length front →
    ((gap : ℕ) → length text < gap → f gap ≡ []) → (gap from : ℕ) →
    text_at_gap (insertions text from (elements_from k f here at back)) gap ≡ (if nat_le here gap then f gap else [])
added-elements k f text front [] here at cut is none gap from =
    let start : gap_of text at ≡ here = gap_of-cut text front [] at cut ∙ sym is in
    added-fixed text (f here) [] at from gap [] (λ g. refl) ∙
    rw start (ap (λ t. (if here == gap then f here else []) ++ t) (sym last) ∙ one_gap f here gap)
  where
    last : (if nat_le (here + 1) gap then f gap else []) ≡ []
    last =
        ⊎_elim (λ (past : here < gap).
        neither (nat_le (here + 1) gap) (f gap) (none gap (omega (arith, is, ap length cut.whole, length-append front []))))
        (λ (within : gap ≤ here).
        let behind : nat_le (here + 1) gap ≡ false = grind (arith, nat_tests) in rw behind refl) (cases_lt here gap)
added-elements k f text front (c ∷ back) here at cut is none gap from =
    let next = IsCut-next text front back c at cut in
    let wide = (len_utf8_bounds c).0 in
    let long : here + 1 ≡ length (front ++ c ∷ []) = omega (arith, is, length-append front (c ∷ [])) in
    let start : gap_of text at ≡ here = gap_of-cut text front (c ∷ back) at cut ∙ sym is in
    added-fixed text (f here) (if nat_le (here + 1) gap then f gap else []) at from gap _
    (λ g.
    added-either (k here) text (if nat_le (here + 1) gap then f gap else []) at (at + len_utf8 c) g gap (elements_from k f (here + 1) (at + len_utf8 c) back)
    (omega arith) (added-elements k f text (front ++ c ∷ []) back (here + 1) (at + len_utf8 c) next long none gap)) ∙
    rw start (one_gap f here gap)

-- ---- nothing is kept or added past the base

runs_reach : (base from : ℕ) (runs : List Run) → AreRuns base from runs → from ≤ base
runs_reach base from [] good = good
runs_reach base from (run ∷ runs) good = omega (arith, good.0, good.1, runs_reach base run.end runs good.2)

kept_none : (base from index : ℕ) (runs : List Run) → AreRuns base from runs → base ≤ index → is_in_runs runs index ≡ false
kept_none base from index [] good past = refl
kept_none base from index (run ∷ runs) good past =
    let reach = runs_reach base run.end runs good.2 in
    right_of_run run.start run.end index runs (omega arith) ∙ kept_none base run.end index runs good.2 past

added_none : (base from gap : ℕ) (adds : List Added) → AreAdds base from adds → base < gap → text_at_gap adds gap ≡ []
added_none base from gap [] good past = refl
added_none base from gap (added ∷ adds) good past =
    let other : (added.gap == gap) ≡ false = grind (arith, nat_tests, good.1) in
    rw other (added_none base (added.gap + 1) gap adds good.3 past)

from_zero : (n : ℕ) → nat_le 0 n ≡ true
from_zero n = grind (arith, nat_tests)

-- the delta of a well-formed unit delta fits, and keeps and adds the same
pub IsDeltaOf-delta_of : (text : List ℕ) (units : UnitDelta) → IsUnitDelta units → units.base ≡ length text → IsDeltaOf text units (delta_of text units)
IsDeltaOf-delta_of text units good same =
    let cut = IsCut-start text in
    let kept : (index : ℕ) → keeps text (delta_of text units) index ≡ unit_keeps units index =
    λ index. kept-elements (unit_keeps units) (unit_adds units) text [] text 0 0 cut refl
    (λ j past. kept_none units.base 0 j units.kept good.runs (omega arith)) index ∙ ap (λ x. x && unit_keeps units index) (from_zero index) in
    let added : (gap : ℕ) → adds text (delta_of text units) gap ≡ unit_adds units gap =
    λ gap. added-elements (unit_keeps units) (unit_adds units) text [] text 0 0 cut refl
    (λ g past. added_none units.base 0 g units.added good.adds (omega arith)) gap 0 ∙ ap (λ x. if x then unit_adds units gap else []) (from_zero gap) in
    record {
      is = refl;
      fits = Fits-elements (unit_keeps units) (unit_adds units) text;
      kept = kept;
      added = added;
      leads = applied-same (keeps text (delta_of text units)) (unit_keeps units) (adds text (delta_of text units)) (unit_adds units) text kept added;
    }

-- so a canonical one is that of its delta
pub IsUnitsOf-delta_of : (text : List ℕ) (units : UnitDelta) → IsCanonical units → units.base ≡ length text → IsUnitsOf text (delta_of text units) units
IsUnitsOf-delta_of text units canonical same =
    let is = IsDeltaOf-delta_of text units canonical.well_formed same in
    record { canonical = canonical; base = same; kept = λ index. sym (is.kept index); added = λ gap. sym (is.added gap); leads = sym is.leads }

-- what is kept and added up to the end of the text says all
pub elements_from-same : (k k' : ℕ → Bool) (f f' : ℕ → List ℕ) (gap at : ℕ) (text : List ℕ) → ((j : ℕ) → j < gap + length text → k j ≡ k' j) →
    ((j : ℕ) → j ≤ gap + length text → f j ≡ f' j) → elements_from k f gap at text ≡ elements_from k' f' gap at text
elements_from-same k k' f f' gap at [] keeps_same adds_same = ap (λ t. fixed_before at t []) (adds_same gap (omega arith))
elements_from-same k k' f f' gap at (c ∷ text) keeps_same adds_same =
    let rest = elements_from-same k k' f f' (gap + 1) (at + len_utf8 c) text (λ j less. keeps_same j (omega arith)) (λ j less. adds_same j (omega arith)) in
    rw (adds_same gap (omega arith), keeps_same gap (omega arith), rest) refl

-- ---- whatever is kept and added, the delta leads to the text with it

pub woven-within : (k k' : ℕ → Bool) (f f' : ℕ → List ℕ) (from : ℕ) (text : List ℕ) → ((j : ℕ) → j < from + length text → k j ≡ k' j) →
    ((gap : ℕ) → gap ≤ from + length text → f gap ≡ f' gap) →
    woven f (λ index c. if k index then c ∷ [] else []) from text ≡ woven f' (λ index c. if k' index then c ∷ [] else []) from text
woven-within k k' f f' from [] keeps adds = adds from (omega arith)
woven-within k k' f f' from (c ∷ text) keeps adds =
    ap₂ (λ xs ys. xs ++ ys) (adds from (omega arith))
    (ap₂ (λ b ys. (if b then c ∷ [] else []) ++ ys) (keeps from (omega arith))
    (woven-within k k' f f' (from + 1) text (λ j less. keeps j (omega (arith, less))) (λ gap less. adds gap (omega (arith, less)))))

module _ (k : ℕ → Bool) (f : ℕ → List ℕ) (text : List ℕ) where
  -- the same up to the end, and nothing past it
  abbrev kept_inside : ℕ → Bool
  kept_inside j = nat_lt j (length text) && k j

  abbrev added_inside : ℕ → List ℕ
  added_inside gap = if nat_le gap (length text) then f gap else []

  kept-inside : (j : ℕ) → j < length text → k j ≡ kept_inside j
  kept-inside j less = sym (ap (λ b. b && k j) (lt-ltb j (length text) less))

  added-inside : (gap : ℕ) → gap ≤ length text → f gap ≡ added_inside gap
  added-inside gap less = sym (ap (λ b. if b then f gap else []) (le-leb gap (length text) less))

  added-past : (gap : ℕ) → length text < gap → added_inside gap ≡ []
  added-past gap past =
      let behind : nat_le gap (length text) ≡ false = grind (arith, nat_tests, past) in
      ap (λ b. if b then f gap else []) behind

  delta-inside : delta_by k f text ≡ delta_by kept_inside added_inside text
  delta-inside =
      ap (λ els. record { els = els; base_len = byte_len text })
      (elements_from-same k kept_inside f added_inside 0 0 text (λ j less. kept-inside j (omega (arith, less))) (λ gap less. added-inside gap (omega (arith, less))))

  pub applied-delta_by : applied (keeps text (delta_by k f text)) (adds text (delta_by k f text)) text ≡ applied k f text
  applied-delta_by =
      let d = delta_by kept_inside added_inside text in
      let cut = IsCut-start text in
      let kept : (index : ℕ) → keeps text d index ≡ kept_inside index =
      λ index. kept-elements kept_inside added_inside text [] text 0 0 cut refl
      (λ j past. ap (λ b. b && k j) (le-ltb j (length text) past)) index ∙ ap (λ x. x && kept_inside index) (from_zero index) in
      let added : (gap : ℕ) → adds text d gap ≡ added_inside gap =
      λ gap. added-elements kept_inside added_inside text [] text 0 0 cut refl added-past gap 0 ∙
      ap (λ x. if x then added_inside gap else []) (from_zero gap) in
      ap (λ (e : Delta). applied (keeps text e) (adds text e) text) delta-inside ∙
      applied-same (keeps text d) kept_inside (adds text d) added_inside text kept added ∙
      woven-within kept_inside k added_inside f 0 text (λ j less. sym (kept-inside j (omega (arith, less)))) (λ gap less. sym (added-inside gap (omega (arith, less))))

-- ---- the delta in the making

pub IsDeltaOf-all : (w : Gathered) (units : UnitDelta) (at base_len : ℕ) (steps : List UnitStep) (text before : List ℕ) (els : List El) → IsUnitDelta units →
    units.base ≡ length before → IsPutting w at steps text before (elements_from (unit_keeps units) (unit_adds units) 0 0 before) → steps ≡ [] →
    els ≡ with_copy w (fixed_before at w.text []) → base_len ≡ byte_len before → IsDeltaOf before units (record { els = els; base_len = base_len })
IsDeltaOf-all w units at base_len steps text before els good same putting none els_is len_is =
    let all : els ≡ elements_from (unit_keeps units) (unit_adds units) 0 0 before =
    els_is ∙ sym (ap (λ s. with_copy w (element_steps w.text at s text)) none) ∙ putting.so_far in
    rw (all, len_is) (IsDeltaOf-delta_of before units good same)
