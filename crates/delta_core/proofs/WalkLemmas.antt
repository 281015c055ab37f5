-- Lemmas on the steps of a unit delta, and on a walk over them.
use Rattle.std.proofs.Common.{◌≡◌, ◌≢◌, ℕ, zero, suc, true, false, Bool, ◌+◌, ◌-◌, ◌<◌, ◌≤◌, List, [], ◌∷◌, ◌++◌, length, get_or, drop, map, replicate, append_assoc, refl, ap, sym, ◌∙◌, arith, subst, ⊎_elim}
use Rattle.std.proofs.lemmas.Bool.{cases_lt}
use Rattle.std.specs.Prelude.{nat_lt, nat_le, ◌==◌, ◌&&◌, slice_get, min, Some, IsTrue}
use Rattle.std.proofs.lemmas.Bool.Decides.{nat_tests}
use Rattle.plain_text.specs.declared.run.Run.{Run}
use Rattle.plain_edits.specs.declared.delta.Added.{Added}
use Rattle.plain_edits.specs.declared.delta.UnitDelta.{UnitDelta}
use Rattle.plain_edits.specs.Delta.{is_in_runs, text_at_gap}
use Rattle.plain_edits.specs.UnitDelta.{AreRuns, AreAdds, IsUnitDelta}
use Rattle.delta_core.specs.UnitStep.{UnitStep, New}
use Rattle.delta_core.specs.Inner.{step_of, steps_from, steps_of}
use Rattle.delta_core.specs.Inner.{Rise, ReachesPast, next_stop, IsToCome, IsRestOfKept, IsStretch}

Rise-weaker : (low from : ℕ) (runs : List Run) → low ≤ from → Rise from runs → Rise low runs
Rise-weaker low from [] less rise = tt
Rise-weaker low from (run ∷ runs) less rise = (omega (arith, rise.0), rise.1, rise.2)

Rise-from_runs : (base from : ℕ) (runs : List Run) → AreRuns base from runs → Rise from runs
Rise-from_runs base from [] good = tt
Rise-from_runs base from (run ∷ runs) good = (good.0, good.1, Rise-from_runs base run.end runs good.2)

pub is_in_runs-before : (from index : ℕ) (runs : List Run) → Rise from runs → index < from → is_in_runs runs index ≡ false
is_in_runs-before from index [] rise less = refl
is_in_runs-before from index (run ∷ runs) rise less =
    let start : from ≤ run.start = rise.0 in
    let end : run.start ≤ run.end = rise.1 in
    let rest = is_in_runs-before run.end index runs rise.2 (omega arith) in
    grind (arith, nat_tests)

-- the stretch before the next run
pub IsStretch-gap : (runs : List Run) (at stop end : ℕ) (run : Run) → Rise 0 runs → slice_get runs 0 ≡ Some run → at < run.start → at < stop →
    end ≡ min run.start stop → IsStretch runs at stop end false
IsStretch-gap [] at stop end run rise first before more is = absurd cc
IsStretch-gap (x ∷ runs) at stop end run rise first before more is =
    let same : x ≡ run = cc in
    record {
      ahead = omega arith;
      within = omega arith;
      same = λ index from to. is_in_runs-before run.start index (x ∷ runs) (omega (arith, ap (λ (r : Run). r.start) same), rise.1, rise.2) (omega arith);
    }

IsRestOfKept-here : (runs : List Run) (at : ℕ) → IsRestOfKept runs runs at
IsRestOfKept-here runs at = record { rise = λ r. r; kept = λ index from. refl }

pub IsRestOfKept-next : (runs rest : List Run) (at : ℕ) (d : Run) → IsRestOfKept runs rest at → 0 < length rest → (get_or rest 0 d).end ≤ at → IsRestOfKept runs (drop 1 rest) at
IsRestOfKept-next runs [] at d is some past = absurd (omega arith)
IsRestOfKept-next runs (run ∷ rest) at d is some past = record {
  rise = λ r. let all = is.rise r in Rise-weaker 0 run.end rest (omega arith) all.2;
  kept = λ index from.
      let same = is.kept index from in
      let out : (nat_le run.start index && nat_lt index run.end) ≡ false = grind (arith, nat_tests) in
      rw out at same;
}

-- ---- the additions

AreAdds-weaker : (base low from : ℕ) (adds : List Added) → low ≤ from → AreAdds base from adds → AreAdds base low adds
AreAdds-weaker base low from [] less good = tt
AreAdds-weaker base low from (added ∷ adds) less good = (omega (arith, good.0), good.1, good.2, good.3)

pub text_at_gap-before : (base from gap : ℕ) (adds : List Added) → AreAdds base from adds → gap < from → text_at_gap adds gap ≡ []
text_at_gap-before base from gap [] good less = refl
text_at_gap-before base from gap (added ∷ adds) good less =
    let here : from ≤ added.gap = good.0 in
    let other : (added.gap == gap) ≡ false = grind (arith, nat_tests) in
    rw other (text_at_gap-before base (added.gap + 1) gap adds good.3 (omega arith))

pub no_additions : (base at gap : ℕ) (adds : List Added) → AreAdds base at adds → gap < next_stop base adds → text_at_gap adds gap ≡ []
no_additions base at gap [] good less = refl
no_additions base at gap (added ∷ adds) good less = text_at_gap-before base added.gap gap (added ∷ adds) (omega arith, good.1, good.2, good.3) less

pub next_stop-bounds : (base at : ℕ) (adds : List Added) → at ≤ base → AreAdds base at adds → (at ≤ next_stop base adds) × (next_stop base adds ≤ base)
next_stop-bounds base at [] reached good = (reached, omega arith)
next_stop-bounds base at (added ∷ adds) reached good = (good.0, good.1)

-- ---- the steps

pub steps_from-same : (k k' : ℕ → Bool) (f f' : ℕ → List ℕ) (gap n : ℕ) → ((j : ℕ) → gap ≤ j → k j ≡ k' j) → ((j : ℕ) → gap ≤ j → f j ≡ f' j) →
    steps_from k f gap n ≡ steps_from k' f' gap n
steps_from-same k k' f f' gap zero keeps adds = ap (λ t. map New t) (adds gap (omega arith))
steps_from-same k k' f f' gap (suc n) keeps adds =
    let rest = steps_from-same k k' f f' (gap + 1) n (λ j less. keeps j (omega arith)) (λ j less. adds j (omega arith)) in
    rw (adds gap (omega arith), keeps gap (omega arith), rest) refl

map_new-append : (s t : List ℕ) → map New (s ++ t) ≡ map New s ++ map New t
map_new-append [] t = refl
map_new-append (c ∷ s) t = ap (λ steps. New c ∷ steps) (map_new-append s t)

steps_added : (k : ℕ → Bool) (f f' : ℕ → List ℕ) (text : List ℕ) (gap n : ℕ) → f gap ≡ text ++ f' gap → ((j : ℕ) → gap + 1 ≤ j → f j ≡ f' j) →
    steps_from k f gap n ≡ map New text ++ steps_from k f' gap n
steps_added k f f' text gap zero here later = ap (λ t. map New t) here ∙ map_new-append text (f' gap)
steps_added k f f' text gap (suc n) here later =
    let rest = steps_from-same k k f f' (gap + 1) n (λ j less. refl) later in
    rw (here, rest) (ap (λ t. t ++ step_of (k gap) ∷ steps_from k f' (gap + 1) n) (map_new-append text (f' gap)) ∙
    append_assoc (map New text) (map New (f' gap)) (step_of (k gap) ∷ steps_from k f' (gap + 1) n))

pub steps_stretch : (k : ℕ → Bool) (f : ℕ → List ℕ) (b : Bool) (gap n total end rest : ℕ) → total ≡ n + rest → end ≡ gap + n →
    ((j : ℕ) → gap ≤ j → j < end → k j ≡ b) → ((j : ℕ) → gap ≤ j → j < end → f j ≡ []) →
    steps_from k f gap total ≡ replicate n (step_of b) ++ steps_from k f end rest
steps_stretch k f b gap zero total end rest all far same none =
    let here : end ≡ gap = omega arith in
    let whole : total ≡ rest = omega arith in
    rw (here, whole) refl
steps_stretch k f b gap (suc n) zero end rest all far same none = absurd (omega arith)
steps_stretch k f b gap (suc n) (suc total) end rest all far same none =
    let more = steps_stretch k f b (gap + 1) n total end rest (omega arith) (omega arith) (λ j low high. same j (omega arith) high) (λ j low high. none j (omega arith) high) in
    rw (none gap (omega arith) (omega arith), same gap (omega arith) (omega arith), more) refl

-- ---- the walk

one_addition : (base at : ℕ) (text : List ℕ) (adds : List Added) (j : ℕ) → at + 1 ≤ j →
    text_at_gap ((record { gap = at; text = text }) ∷ adds) j ≡ text_at_gap adds j
one_addition base at text adds j less =
    let other : (at == j) ≡ false = grind (arith, nat_tests) in
    rw other refl

here_addition : (at : ℕ) (text : List ℕ) (adds : List Added) → text_at_gap ((record { gap = at; text = text }) ∷ adds) at ≡ text ++ text_at_gap adds at
here_addition at text adds =
    let same : (at == at) ≡ true = grind (arith, nat_tests) in
    rw same refl

pub added_next : (k : ℕ → Bool) (base at n : ℕ) (text : List ℕ) (adds rest : List Added) → adds ≡ (record { gap = at; text = text }) ∷ rest →
    steps_from k (text_at_gap adds) at n ≡ map New text ++ steps_from k (text_at_gap rest) at n
added_next k base at n text adds rest is =
    rw is (steps_added k (text_at_gap ((record { gap = at; text = text }) ∷ rest)) (text_at_gap rest) text at n (here_addition at text rest) (one_addition base at text rest))

pub IsToCome-added : (base at : ℕ) (kept : List Run) (text : List ℕ) (adds rest : List Added) → IsToCome base at kept adds →
    adds ≡ (record { gap = at; text = text }) ∷ rest → IsToCome base at kept rest
IsToCome-added base at kept text adds rest ahead is =
    let Good : List Added → Type 0 = λ xs. AreAdds base at xs in
    let good = subst Good is ahead.adds in
    record { reached = ahead.reached; runs = ahead.runs; ends = ahead.ends; adds = AreAdds-weaker base at (at + 1) rest (omega arith) good.3 }

pub some_added : (base at : ℕ) (text : List ℕ) (adds rest : List Added) → AreAdds base at adds → adds ≡ (record { gap = at; text = text }) ∷ rest → 0 < length (map New text)
some_added base at text adds rest ahead is =
    let Good : List Added → Type 0 = λ xs. AreAdds base at xs in
    let good = subst Good is ahead in
    some_steps text good.2
  where
    some_steps : (t : List ℕ) → t ≢ [] → 0 < length (map New t)
    some_steps [] some = absurd (some refl)
    some_steps (c ∷ t) some = omega arith

-- nothing is ahead exactly at the end, with no addition left
pub steps_none : (k : ℕ → Bool) (adds : List Added) (at n : ℕ) → n ≡ 0 → adds ≡ [] → steps_from k (text_at_gap adds) at n ≡ []
steps_none k adds at n done none = rw (done, none) refl

not_empty : (xs : List UnitStep) (y : UnitStep) (ys : List UnitStep) → xs ++ y ∷ ys ≡ [] → ⊥
not_empty [] y ys e = cc
not_empty (x ∷ xs) y ys e = cc

text_not_empty : (text more : List ℕ) → text ≢ [] → map New (text ++ more) ≡ [] → ⊥
text_not_empty [] more some e = some refl
text_not_empty (c ∷ text) more some e = cc

pub steps_some : (k : ℕ → Bool) (base : ℕ) (adds : List Added) (at n : ℕ) → at + n ≡ base → AreAdds base at adds →
    steps_from k (text_at_gap adds) at n ≡ [] → (n ≡ 0) × (adds ≡ [])
steps_some k base adds at (suc n) far good none = absurd (not_empty _ _ _ none)
steps_some k base [] at zero far good none = (refl, refl)
steps_some k base (added ∷ adds) at zero far good none =
    let low : at ≤ added.gap = good.0 in
    let high : added.gap ≤ base = good.1 in
    let here : (added.gap == at) ≡ true = grind (arith, nat_tests) in
    absurd (text_not_empty added.text (text_at_gap adds at) good.2 (rw here at none))

pub more_ahead : (base at : ℕ) (kept : List Run) (adds : List Added) → IsToCome base at kept adds →
    steps_from (is_in_runs kept) (text_at_gap adds) at (base - at) ≢ [] → ((b : ℕ) → next_stop b adds ≡ at → adds ≡ []) → at < next_stop base adds
more_ahead base at kept [] ahead some none =
    ⊎_elim (λ (less : at < base). less)
    (λ (past : base ≤ at). absurd (some (steps_none (is_in_runs kept) [] at (base - at) (omega arith) refl))) (cases_lt at base)
more_ahead base at kept (added ∷ adds) ahead some none =
    let here : at ≤ added.gap = ahead.adds.0 in
    let apart : added.gap ≢ at = λ same. absurd (not_nil added adds (none base same)) in
    omega arith
  where
    not_nil : (x : Added) (xs : List Added) → x ∷ xs ≢ []
    not_nil x xs = λ e. cc

pub stretch_next : (base at end : ℕ) (kept rest : List Run) (adds : List Added) (b : Bool) → IsToCome base at kept adds →
    IsStretch kept at (next_stop base adds) end b → IsRestOfKept kept rest end →
    steps_from (is_in_runs kept) (text_at_gap adds) at (base - at) ≡
    replicate (end - at) (step_of b) ++ steps_from (is_in_runs rest) (text_at_gap adds) end (base - end)
stretch_next base at end kept rest adds b ahead stretch left =
    let bounds = next_stop-bounds base at adds ahead.reached ahead.adds in
    steps_stretch (is_in_runs kept) (text_at_gap adds) b at (end - at) (base - at) end (base - end)
    (omega (arith, stretch.ahead, stretch.within, bounds.1)) (omega (arith, stretch.ahead)) (λ j low high. stretch.same j low high)
    (λ j low high. no_additions base at j adds ahead.adds (omega (arith, stretch.within))) ∙
    ap (λ steps. replicate (end - at) (step_of b) ++ steps)
    (steps_from-same (is_in_runs kept) (is_in_runs rest) (text_at_gap adds) (text_at_gap adds) end (base - end) (λ j low. sym (left.kept j low)) (λ j low. refl))

pub IsToCome-stretch : (base at end : ℕ) (kept rest : List Run) (adds : List Added) (b : Bool) → IsToCome base at kept adds →
    IsStretch kept at (next_stop base adds) end b → IsRestOfKept kept rest end → ReachesPast end rest → IsToCome base end rest adds
IsToCome-stretch base at end kept rest adds b ahead stretch left ends =
    let bounds = next_stop-bounds base at adds ahead.reached ahead.adds in
    record {
      reached = omega (arith, stretch.within, bounds.1);
      runs = left.rise ahead.runs;
      ends = ends;
      adds = still base at end adds ahead.adds stretch.within;
    }
  where
    still : (b' at' end' : ℕ) (xs : List Added) → AreAdds b' at' xs → end' ≤ next_stop b' xs → AreAdds b' end' xs
    still b' at' end' [] good within = tt
    still b' at' end' (x ∷ xs) good within = (within, good.1, good.2, good.3)

pub IsToCome-start : (units : UnitDelta) (rest : List Run) → IsUnitDelta units → IsRestOfKept units.kept rest 0 → ReachesPast 0 rest → IsToCome units.base 0 rest units.added
IsToCome-start units rest good left ends = record {
  reached = omega arith;
  runs = left.rise (Rise-from_runs units.base 0 units.kept good.runs);
  ends = ends;
  adds = good.adds;
}

pub steps_of-start : (units : UnitDelta) (rest : List Run) → IsRestOfKept units.kept rest 0 → steps_from (is_in_runs rest) (text_at_gap units.added) 0 (units.base - 0) ≡ steps_of units
steps_of-start units rest left =
    let all : units.base - 0 ≡ units.base = omega arith in
    rw all (steps_from-same (is_in_runs rest) (is_in_runs units.kept) (text_at_gap units.added) (text_at_gap units.added) 0 units.base (λ j low. left.kept j low) (λ j low. refl))

pub empty_iff : (k : ℕ → Bool) (base at : ℕ) (adds : List Added) (self : List UnitStep) (result : Bool) → AreAdds base at adds →
    steps_from k (text_at_gap adds) at (base - at) ≡ self → result ≡ (length adds == 0) → at ≡ base → (IsTrue result → self ≡ []) × (self ≡ [] → IsTrue result)
empty_iff k base at adds self result good is test here = (
  λ yes. sym is ∙ steps_none k adds at (base - at) (omega arith) (no_items adds (sym test ∙ yes)),
  λ none. test ∙ ap (λ xs. length xs == 0) (steps_some k base adds at (base - at) (omega arith) good (is ∙ none)).1,
)
  where
    no_items : (xs : List Added) → (length xs == 0) ≡ true → xs ≡ []
    no_items [] e = refl
    no_items (x ∷ xs) e = absurd (grind (arith, nat_tests))

pub not_empty_yet : (k : ℕ → Bool) (base at : ℕ) (adds : List Added) (self : List UnitStep) → at ≤ base → AreAdds base at adds →
    steps_from k (text_at_gap adds) at (base - at) ≡ self → at ≢ base → self ≢ []
not_empty_yet k base at adds self reached good is other none =
    let done = steps_some k base adds at (base - at) (omega arith) good (is ∙ none) in
    absurd (other (omega (arith, done.0)))
