-- Lemmas on a unit delta in the making.
use Rattle.std.proofs.Common.{◌≡◌, ◌≢◌, ℕ, true, false, Bool, ◌+◌, ◌<◌, ◌≤◌, List, [], ◌∷◌, ◌++◌, append-nil, append_assoc, refl, ap, sym, ◌∙◌, arith}
use Rattle.std.specs.Prelude.{if◌then◌else◌, nat_lt, nat_le, ◌==◌, ◌||◌, ◌&&◌, Result, Ok, Err, OnOk, OnErr}
use Rattle.std.proofs.lemmas.Bool.{ltb-false, ltb-true}
use Rattle.std.proofs.lemmas.Bool.Decides.{nat_tests}
use Rattle.plain_text.specs.declared.run.Run.{Run}
use Rattle.plain_edits.specs.declared.delta.Added.{Added}
use Rattle.plain_edits.specs.Delta.{is_in_runs, text_at_gap}
use Rattle.plain_edits.specs.UnitDelta.{AreRuns, AreAdds, AreApart, IsCanonical}
use Rattle.delta_core.specs.Inner.{run_to, IsUnfinished, with_added, with_run}

-- one more addition would be at this gap
abbrev at_gap : ℕ → Added
at_gap gap = record { gap = gap; text = 0 ∷ [] }

some_text : (c : ℕ) (text : List ℕ) → c ∷ text ≢ []
some_text c text = λ e. cc

AreAdds-next : (base next from : ℕ) (adds : List Added) (text : List ℕ) → base < next → AreAdds base from (adds ++ at_gap base ∷ []) →
    AreAdds next from (with_added adds base text ++ at_gap next ∷ [])
AreAdds-next base next from [] [] less good = (omega (arith, good.0), omega arith, some_text 0 [], tt)
AreAdds-next base next from [] (c ∷ text) less good = (good.0, omega arith, some_text c text, (omega arith, omega arith, some_text 0 [], tt))
AreAdds-next base next from (added ∷ adds) [] less good =
    (good.0, omega (arith, good.1), good.2, AreAdds-next base next (added.gap + 1) adds [] less good.3)
AreAdds-next base next from (added ∷ adds) (c ∷ text) less good =
    (good.0, omega (arith, good.1), good.2, AreAdds-next base next (added.gap + 1) adds (c ∷ text) less good.3)

AreAdds-closed : (base from : ℕ) (adds : List Added) (text : List ℕ) → AreAdds base from (adds ++ at_gap base ∷ []) →
    AreAdds base from (with_added adds base text)
AreAdds-closed base from [] [] good = tt
AreAdds-closed base from [] (c ∷ text) good = (good.0, good.1, some_text c text, tt)
AreAdds-closed base from (added ∷ adds) [] good = (good.0, good.1, good.2, AreAdds-closed base (added.gap + 1) adds [] good.3)
AreAdds-closed base from (added ∷ adds) (c ∷ text) good = (good.0, good.1, good.2, AreAdds-closed base (added.gap + 1) adds (c ∷ text) good.3)

-- one more run would start here
abbrev one_at : ℕ → Run
one_at from = run_to from (from + 1)

AreApart-later : (low from next : ℕ) (runs : List Run) → from ≤ next → AreApart low (runs ++ one_at from ∷ []) → AreApart low (runs ++ one_at next ∷ [])
AreApart-later low from next [] less good = (omega (arith, good.0), omega arith, tt)
AreApart-later low from next (run ∷ runs) less good = (good.0, good.1, AreApart-later (run.end + 1) from next runs less good.2)

-- a run, where the test holds
abbrev run_if : Bool → ℕ → ℕ → List Run
run_if b from to = if b then run_to from to ∷ [] else []

apart_next : (b : Bool) (low from base next : ℕ) (runs : List Run) → (b ≡ true → from < base) → from ≤ base → base < next →
    AreApart low (runs ++ one_at from ∷ []) → AreApart low ((runs ++ run_if b from base) ++ one_at next ∷ [])
apart_next true low from base next [] some reached less good = (good.0, some refl, (omega arith, omega arith, tt))
apart_next false low from base next [] some reached less good = (omega (arith, good.0), omega arith, tt)
apart_next b low from base next (run ∷ runs) some reached less good =
    (good.0, good.1, apart_next b (run.end + 1) from base next runs some reached less good.2)

apart_closed : (b : Bool) (low from base : ℕ) (runs : List Run) → (b ≡ true → from < base) →
    AreApart low (runs ++ one_at from ∷ []) → AreApart low (runs ++ run_if b from base)
apart_closed true low from base [] some good = (good.0, some refl, tt)
apart_closed false low from base [] some good = tt
apart_closed b low from base (run ∷ runs) some good = (good.0, good.1, apart_closed b (run.end + 1) from base runs some good.2)

AreRuns-weaker : (base low from : ℕ) (runs : List Run) → low ≤ from → AreRuns base from runs → AreRuns base low runs
AreRuns-weaker base low from [] less good = omega (arith, good)
AreRuns-weaker base low from (run ∷ runs) less good = (omega (arith, good.0), good.1, good.2)

runs_closed : (b : Bool) (low from base : ℕ) (runs : List Run) → from ≤ base →
    AreApart low (runs ++ one_at from ∷ []) → AreRuns base low (runs ++ run_if b from base)
runs_closed true low from base [] reached good = (good.0, reached, omega arith)
runs_closed false low from base [] reached good = omega (arith, good.0)
runs_closed b low from base (run ∷ runs) reached good =
    (good.0, omega (arith, good.1), AreRuns-weaker base run.end (run.end + 1) _ (omega arith) (runs_closed b (run.end + 1) from base runs reached good.2))

-- ---- how a unit delta grows

pub IsUnfinished-kept : (base next from : ℕ) (kept : List Run) (added : List Added) (text : List ℕ) → base < next → IsUnfinished base from kept added →
    IsUnfinished next from kept (with_added added base text)
IsUnfinished-kept base next from kept added text less is_open = record {
  reached = omega (arith, is_open.reached);
  apart = is_open.apart;
  adds = AreAdds-next base next 0 added text less is_open.adds;
}

pub IsUnfinished-waiting : (base next : ℕ) (from : ℕ) (kept : List Run) (added : List Added) → base < next → IsUnfinished base from kept added → IsUnfinished next next kept added
IsUnfinished-waiting base next from kept added less is_open = record {
  reached = omega arith;
  apart = AreApart-later 0 from next kept (omega (arith, is_open.reached)) is_open.apart;
  adds = AreAdds-next base next 0 added [] less is_open.adds;
}

pub IsUnfinished-passed : (base next from : ℕ) (kept : List Run) (added : List Added) (text : List ℕ) → base < next → IsUnfinished base from kept added →
    IsUnfinished next next (with_run kept from base) (with_added added base text)
IsUnfinished-passed base next from kept added text less is_open = record {
  reached = omega arith;
  apart = apart_next (nat_lt from base) 0 from base next kept (ltb-true from base) is_open.reached less is_open.apart;
  adds = AreAdds-next base next 0 added text less is_open.adds;
}

pub IsCanonical-closed : (base from : ℕ) (kept : List Run) (added : List Added) (text : List ℕ) → IsUnfinished base from kept added →
    IsCanonical (record { base = base; kept = with_run kept from base; added = with_added added base text })
IsCanonical-closed base from kept added text is_open = record {
  well_formed = record {
    runs = runs_closed (nat_lt from base) 0 from base kept is_open.reached is_open.apart;
    adds = AreAdds-closed base 0 added text is_open.adds;
  };
  apart = apart_closed (nat_lt from base) 0 from base kept (ltb-true from base) is_open.apart;
}

-- ---- what it keeps and adds

pub is_in_runs-append : (xs ys : List Run) (index : ℕ) → is_in_runs (xs ++ ys) index ≡ (is_in_runs xs index || is_in_runs ys index)
is_in_runs-append [] ys index = refl
is_in_runs-append (x ∷ xs) ys index =
    or_first (nat_le x.start index && nat_lt index x.end) (is_in_runs (xs ++ ys) index) (is_in_runs xs index) (is_in_runs ys index) (is_in_runs-append xs ys index)
  where
    or_first : (a whole b c : Bool) → whole ≡ (b || c) → (a || whole) ≡ ((a || b) || c)
    or_first true whole b c same = refl
    or_first false whole b c same = same

pub text_at_gap-append : (xs ys : List Added) (gap : ℕ) → text_at_gap (xs ++ ys) gap ≡ text_at_gap xs gap ++ text_at_gap ys gap
text_at_gap-append [] ys gap = refl
text_at_gap-append (x ∷ xs) ys gap =
    ap (λ t. (if x.gap == gap then x.text else []) ++ t) (text_at_gap-append xs ys gap) ∙
    sym (append_assoc (if x.gap == gap then x.text else []) (text_at_gap xs gap) (text_at_gap ys gap))

-- a run that is empty, and one that is cut in two
pub run_none : (at index : ℕ) → is_in_runs (run_to at at ∷ []) index ≡ false
run_none at index = grind (arith, nat_tests)

pub run_split : (from base next index : ℕ) → from ≤ base → base ≤ next →
    is_in_runs (run_to from next ∷ []) index ≡ (is_in_runs (run_to from base ∷ []) index || is_in_runs (run_to base next ∷ []) index)
run_split from base next index one other = grind (arith, nat_tests)

or_assoc : (a b c : Bool) → (a || (b || c)) ≡ ((a || b) || c)
or_assoc true b c = refl
or_assoc false b c = refl

or_false : (a : Bool) → (a || false) ≡ a
or_false true = refl
or_false false = refl

pub keeps_more : (kept : List Run) (from base next index : ℕ) → from ≤ base → base ≤ next →
    is_in_runs (kept ++ run_to from next ∷ []) index ≡
    (is_in_runs (kept ++ run_to from base ∷ []) index || is_in_runs (run_to base next ∷ []) index)
keeps_more kept from base next index one other =
    is_in_runs-append kept (run_to from next ∷ []) index ∙
    ap (λ b. is_in_runs kept index || b) (run_split from base next index one other) ∙
    or_assoc (is_in_runs kept index) (is_in_runs (run_to from base ∷ []) index) (is_in_runs (run_to base next ∷ []) index) ∙
    ap (λ b. b || is_in_runs (run_to base next ∷ []) index) (sym (is_in_runs-append kept (run_to from base ∷ []) index))

pub keeps_none : (units : List Run) (at index : ℕ) → is_in_runs units index ≡ (is_in_runs units index || is_in_runs (run_to at at ∷ []) index)
keeps_none units at index = sym (ap (λ b. is_in_runs units index || b) (run_none at index) ∙ or_false (is_in_runs units index))

run_if-in : (b : Bool) (from base index : ℕ) → (b ≡ false → base ≤ from) →
    is_in_runs (run_if b from base) index ≡ is_in_runs (run_to from base ∷ []) index
run_if-in true from base index none = refl
run_if-in false from base index none = let past = none refl in grind (arith, nat_tests)

pub keeps-with_run : (kept : List Run) (from base index : ℕ) → is_in_runs (with_run kept from base) index ≡ is_in_runs (kept ++ run_to from base ∷ []) index
keeps-with_run kept from base index =
    is_in_runs-append kept (run_if (nat_lt from base) from base) index ∙
    ap (λ b. is_in_runs kept index || b) (run_if-in (nat_lt from base) from base index (ltb-false from base)) ∙
    sym (is_in_runs-append kept (run_to from base ∷ []) index)

pub keeps_waiting : (kept : List Run) (from base next index : ℕ) →
    is_in_runs (with_run kept from base ++ run_to next next ∷ []) index ≡ is_in_runs (kept ++ run_to from base ∷ []) index
keeps_waiting kept from base next index =
    is_in_runs-append (with_run kept from base) (run_to next next ∷ []) index ∙ sym (keeps_none (with_run kept from base) next index) ∙
    keeps-with_run kept from base index

one_text : (gap at : ℕ) (text : List ℕ) → text_at_gap ((record { gap = gap; text = text }) ∷ []) at ≡ (if gap == at then text else [])
one_text gap at text = append-nil (if gap == at then text else [])

abbrev nothing : List ℕ
nothing = []

no_text : (b : Bool) → (if b then nothing else nothing) ≡ nothing
no_text true = refl
no_text false = refl

pub adds-with_added : (added : List Added) (gap at : ℕ) (text : List ℕ) →
    text_at_gap (with_added added gap text) at ≡ text_at_gap (added ++ (record { gap = gap; text = text }) ∷ []) at
adds-with_added added gap at [] =
    sym (text_at_gap-append added ((record { gap = gap; text = [] }) ∷ []) at ∙ ap (λ t. text_at_gap added at ++ t) (one_text gap at [] ∙ no_text (gap == at)) ∙
    append-nil (text_at_gap added at))
adds-with_added added gap at (c ∷ text) = refl

pub adds_waiting : (added : List Added) (gap next at : ℕ) (text : List ℕ) →
    text_at_gap (with_added added gap text ++ (record { gap = next; text = [] }) ∷ []) at ≡ text_at_gap (added ++ (record { gap = gap; text = text }) ∷ []) at
adds_waiting added gap next at text = sym (adds-with_added (with_added added gap text) next at []) ∙ adds-with_added added gap at text

if_both : (b : Bool) (xs ys : List ℕ) → (if b then xs ++ ys else []) ≡ (if b then xs else []) ++ (if b then ys else [])
if_both true xs ys = refl
if_both false xs ys = refl

pub adds_more : (added : List Added) (gap at : ℕ) (text more : List ℕ) →
    text_at_gap (added ++ (record { gap = gap; text = text ++ more }) ∷ []) at ≡
    text_at_gap (added ++ (record { gap = gap; text = text }) ∷ []) at ++ (if gap == at then more else [])
adds_more added gap at text more =
    text_at_gap-append added _ at ∙ ap (λ t. text_at_gap added at ++ t) (one_text gap at (text ++ more) ∙ if_both (gap == at) text more) ∙
    sym (append_assoc (text_at_gap added at) (if gap == at then text else []) (if gap == at then more else [])) ∙
    ap (λ t. t ++ (if gap == at then more else [])) (sym (text_at_gap-append added _ at ∙ ap (λ t. text_at_gap added at ++ t) (one_text gap at text)))

-- ---- whether or not there was memory for the addition

pub IsUnfinished-kept_either : {A E : Type 0} (r : Result A E) (base next from : ℕ) (kept : List Run) (added new : List Added) (text : List ℕ) → base < next →
    IsUnfinished base from kept added → OnOk r (new ≡ with_added added base text) → OnErr r (new ≡ added) → IsUnfinished next from kept new
IsUnfinished-kept_either (Ok x) base next from kept added new text less is_open ok err = rw ok (IsUnfinished-kept base next from kept added text less is_open)
IsUnfinished-kept_either (Err e) base next from kept added new text less is_open ok err = rw err (IsUnfinished-kept base next from kept added [] less is_open)

pub IsUnfinished-passed_either : {A E : Type 0} (r : Result A E) (base next from : ℕ) (kept runs : List Run) (added new : List Added) (text : List ℕ) → base < next →
    IsUnfinished base from kept added → runs ≡ with_run kept from base → OnOk r (new ≡ with_added added base text) → OnErr r (new ≡ added) → IsUnfinished next next runs new
IsUnfinished-passed_either (Ok x) base next from kept runs added new text less is_open run ok err = rw (run, ok) (IsUnfinished-passed base next from kept added text less is_open)
IsUnfinished-passed_either (Err e) base next from kept runs added new text less is_open run ok err = rw (run, err) (IsUnfinished-passed base next from kept added [] less is_open)
