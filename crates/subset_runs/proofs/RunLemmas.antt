-- Positions in ranges, and the flags that ranges stand for.
use Rattle.std.proofs.Common.{◌≡◌, ℕ, ◌+◌, ◌-◌, ◌<◌, ◌≤◌, Bool, true, false, ◌||◌, ◌&&◌, leb, List, [], ◌∷◌, ◌++◌, length, take, drop, replicate, map, set, get_or, not, Some, None, Option, ◌⊎◌, inl, inr, ◌≢◌, refl, ap, sym, ◌∙◌, subst, arith}
use Rattle.std.specs.Prelude.{suc, zero}
use Rattle.std.specs.List.{range_with_len, slice_get}
use Rattle.std.specs.List.Sorted.{IsNonDecreasingBy}
use Rattle.std.proofs.lemmas.Grind.{common_steps}
use Rattle.std.proofs.lemmas.Bool.Decides.{nat_tests}
use Rattle.std.proofs.lemmas.Bool.{lt-ltb, or_right, or_left, or_from, cases_lt, true≢false, false≢true}
use Rattle.std.proofs.lemmas.Option.{slice_get_past}
use Rattle.std.proofs.lemmas.List.{drop_at, nil_from_length, get_or_past}
use Rattle.std.proofs.lemmas.List.Folds.{list_any-append}
use Rattle.std.proofs.lemmas.List.FromFn.{length-map-range_with_len, get_or-map-range_with_len}
use Rattle.subset_runs.specs.Runs.{is_in, is_in_some, flags_in, AreSeparate, next_start, EndsAfter, IsStored, IsAhead}
use Rattle.subset_runs.specs.Inner.{AddsRun, IsRest}
use Rattle.subset_runs.specs.Subset.{count, contains}
use Rattle.subset_runs.specs.Stretch.{IsFront}
use Rattle.subset_runs.proofs.FlagLemmas.{count-append, count_le_length, count-replicate_true, count-replicate_false}

pub is_in-true : (p : ℕ) (r : ℕ × ℕ) → r.0 ≤ p → p < r.1 → is_in p r ≡ true
is_in-true p r a b = grind (arith, nat_tests)

pub is_in-before : (p : ℕ) (r : ℕ × ℕ) → p < r.0 → is_in p r ≡ false
is_in-before p r a = grind (arith, nat_tests)

pub is_in-after : (p : ℕ) (r : ℕ × ℕ) → r.1 ≤ p → is_in p r ≡ false
is_in-after p r a = grind (arith, nat_tests)

pub length-flags_in : (ranges : List (ℕ × ℕ)) (at n : ℕ) → length (flags_in ranges at n) ≡ n
length-flags_in ranges at n = length-map-range_with_len (is_in_some ranges) at n

-- flags in two parts
pub flags_in-append : (ranges : List (ℕ × ℕ)) (at m n k middle : ℕ) → k ≡ m + n → middle ≡ at + m → flags_in ranges at k ≡ flags_in ranges at m ++ flags_in ranges middle n
flags_in-append ranges at zero n k middle e f = let same : k ≡ n = omega arith in let there : middle ≡ at = omega arith in cc
flags_in-append ranges at (suc m) n zero middle e f = absurd (omega arith)
flags_in-append ranges at (suc m) n (suc k) middle e f =
    ap (λ rest. is_in_some ranges at ∷ rest) (flags_in-append ranges (at + 1) m n k middle (omega arith) (omega arith))

pub flags_in_whole : (items runs : List (ℕ × ℕ)) (len : ℕ) (flags : List Bool) → items ≡ runs → flags_in runs 0 len ≡ flags → flags_in items 0 (length flags) ≡ flags
flags_in_whole items runs len flags same e =
    let n : length flags ≡ len = ap length (sym e) ∙ length-flags_in runs 0 len in
    cc

pub slice_get-flags_in : (ranges : List (ℕ × ℕ)) (at n i middle : ℕ) → i < n → middle ≡ at + i → slice_get (flags_in ranges at n) i ≡ Some (is_in_some ranges middle)
slice_get-flags_in ranges at zero i middle h e = absurd (omega arith)
slice_get-flags_in ranges at (suc n) zero middle h e = let same : middle ≡ at = omega arith in cc
slice_get-flags_in ranges at (suc n) (suc i) middle h e = slice_get-flags_in ranges (at + 1) n i middle (omega arith) (omega arith)

-- ranges that have the same positions there give the same flags
pub flags_in_same : (xs ys : List (ℕ × ℕ)) (at n : ℕ) → ((p : ℕ) → at ≤ p → p < at + n → is_in_some xs p ≡ is_in_some ys p) → flags_in xs at n ≡ flags_in ys at n
flags_in_same xs ys at zero h = refl
flags_in_same xs ys at (suc n) h =
    let first = h at (omega arith) (omega arith) in
    let rest = flags_in_same xs ys (at + 1) n (λ p a b. h p (omega arith) (omega arith)) in
    cc

-- positions that are all members, or all none
pub flags_in_all : (xs : List (ℕ × ℕ)) (at n : ℕ) (b : Bool) → ((p : ℕ) → at ≤ p → p < at + n → is_in_some xs p ≡ b) → flags_in xs at n ≡ replicate n b
flags_in_all xs at zero b h = refl
flags_in_all xs at (suc n) b h =
    let first = h at (omega arith) (omega arith) in
    let rest = flags_in_all xs (at + 1) n b (λ p a b. h p (omega arith) (omega arith)) in
    cc

-- the flags after the first m
pub drop-flags_in : (xs : List (ℕ × ℕ)) (at m n middle : ℕ) → m ≤ n → middle ≡ at + m → drop m (flags_in xs at n) ≡ flags_in xs middle (n - m)
drop-flags_in xs at m n middle h e =
    rw (flags_in-append xs at m (n - m) n middle (omega arith) e) (drop_at (flags_in xs at m) _ m (length-flags_in xs at m))

-- no run has a position below the first
pub is_in_some-before : (low p : ℕ) (runs : List (ℕ × ℕ)) → AreSeparate low runs → p < low → is_in_some runs p ≡ false
is_in_some-before low p [] a h = refl
is_in_some-before low p (r ∷ runs) a h = rw (is_in-before p r (omega arith)) (is_in_some-before (r.1 + 1) p runs a.2 (omega arith))

-- nor one past the last
pub next_start-le : (low : ℕ) (runs : List (ℕ × ℕ)) → AreSeparate low runs → low ≤ next_start low runs
next_start-le low [] a = omega arith
next_start-le low (r ∷ runs) a = omega (arith, next_start-le (r.1 + 1) runs a.2)

pub is_in_some-after : (low p : ℕ) (runs : List (ℕ × ℕ)) → AreSeparate low runs → next_start low runs ≤ p + 1 → is_in_some runs p ≡ false
is_in_some-after low p [] a h = refl
is_in_some-after low p (r ∷ runs) a h =
    let end = next_start-le (r.1 + 1) runs a.2 in
    rw (is_in-after p r (omega arith)) (is_in_some-after (r.1 + 1) p runs a.2 h)

-- ---- one more run

next_start-last : (low i : ℕ) (runs : List (ℕ × ℕ)) (last : ℕ × ℕ) → i + 1 ≡ length runs → get_or runs i last ≡ last → next_start low runs ≡ last.1 + 1
next_start-last low i [] last e g = absurd (omega arith)
next_start-last low zero (r ∷ []) last e g = ap (λ (x : ℕ × ℕ). x.1 + 1) g
next_start-last low zero (r ∷ s ∷ runs) last e g = absurd (omega arith)
next_start-last low (suc i) (r ∷ runs) last e g = next_start-last (r.1 + 1) i runs last (omega arith) g

pub next_start-free : (i : ℕ) (runs : List (ℕ × ℕ)) (last : ℕ × ℕ) (start : ℕ) → i + 1 ≡ length runs → get_or runs i last ≡ last → last.1 ≢ start → next_start 0 runs ≤ start + 1 → next_start 0 runs ≤ start
next_start-free i runs last start e g other w = omega (arith, next_start-last 0 i runs last e g)

pub next_start-empty : (runs : List (ℕ × ℕ)) → length runs ≡ 0 → next_start 0 runs ≡ 0
next_start-empty [] e = refl
next_start-empty (r ∷ runs) e = absurd (omega arith)

is_in-joined : (p s m e : ℕ) → s < m → m < e → (is_in p (s, e) || false) ≡ ((is_in p (s, m) || false) || is_in p (m, e))
is_in-joined p s m e a b = grind (arith, nat_tests)

or_assoc : (x y z : Bool) → (x || (y || z)) ≡ ((x || y) || z)
or_assoc true y z = refl
or_assoc false y z = refl

or_false : (x y : Bool) → y ≡ false → (x || y) ≡ x
or_false true y e = refl
or_false false y e = e

and_true : (x : Bool) → (x && true) ≡ x
and_true true = refl
and_true false = refl

-- the last run, made longer
pub AddsRun-longer : (low i : ℕ) (runs : List (ℕ × ℕ)) (last : ℕ × ℕ) (end : ℕ) → AreSeparate low runs → i + 1 ≡ length runs → get_or runs i last ≡ last → last.1 < end → AddsRun low runs (set runs i (last.0, end)) last.1 end
AddsRun-longer low i [] last end a e g h = absurd (omega arith)
AddsRun-longer low zero (r ∷ []) last end a e g h =
    let further : r.1 < end = subst (λ (x : ℕ × ℕ). x.1 < end) (sym g) h in
    let from_first : AddsRun low (r ∷ []) ((r.0, end) ∷ []) r.1 end = record {
      apart = (a.0, omega arith, tt);
      within = refl;
      members = λ p. is_in-joined p r.0 r.1 end a.1 further;
    } in
    subst (λ (x : ℕ × ℕ). AddsRun low (r ∷ []) ((x.0, end) ∷ []) x.1 end) g from_first
AddsRun-longer low zero (r ∷ s ∷ runs) last end a e g h = absurd (omega arith)
AddsRun-longer low (suc i) (r ∷ runs) last end a e g h =
    let more = AddsRun-longer (r.1 + 1) i runs last end a.2 (omega arith) g h in
    record {
      apart = (a.0, a.1, more.apart);
      within = more.within;
      members = λ p. ap (λ b. is_in p r || b) (more.members p) ∙ or_assoc (is_in p r) _ _;
    }

-- a run at the end
pub AddsRun-push : (low : ℕ) (runs : List (ℕ × ℕ)) (start end : ℕ) → AreSeparate low runs → next_start low runs ≤ start → start < end → AddsRun low runs (runs ++ (start, end) ∷ []) start end
AddsRun-push low [] start end a n h = record {
  apart = (n, h, tt);
  within = refl;
  members = λ p. grind (arith, nat_tests);
}
AddsRun-push low (r ∷ runs) start end a n h =
    let more = AddsRun-push (r.1 + 1) runs start end a.2 n h in
    record {
      apart = (a.0, a.1, more.apart);
      within = more.within;
      members = λ p. ap (λ b. is_in p r || b) (more.members p) ∙ or_assoc (is_in p r) _ _;
    }

-- ---- flags at the end

pub flags_in-none : (at n : ℕ) → flags_in [] at n ≡ replicate n false
flags_in-none at n = flags_in_all [] at n false (λ p a b. refl)

-- positions past the runs are no members
pub flags_in-grown : (runs : List (ℕ × ℕ)) (len n end : ℕ) → AreSeparate 0 runs → next_start 0 runs ≤ len + 1 → end ≡ len + n → flags_in runs 0 end ≡ flags_in runs 0 len ++ replicate n false
flags_in-grown runs len n end a w e =
    flags_in-append runs 0 len n end len e (omega arith)
    ∙ ap (λ rest. flags_in runs 0 len ++ rest) (flags_in_all runs len n false (λ p from to. is_in_some-after 0 p runs a (omega arith)))

-- the positions of the run added are
pub flags_in-added : (old new : List (ℕ × ℕ)) (len n end : ℕ) → AreSeparate 0 old → next_start 0 old ≤ len + 1 → AddsRun 0 old new len end → end ≡ len + n → flags_in new 0 end ≡ flags_in old 0 len ++ replicate n true
flags_in-added old new len n end a w adds e =
    let front : flags_in new 0 len ≡ flags_in old 0 len =
    flags_in_same new old 0 len (λ p from to. adds.members p ∙ or_false _ _ (is_in-before p (len, end) (omega arith))) in
    let back : flags_in new len n ≡ replicate n true =
    flags_in_all new len n true (λ p from to.
    adds.members p ∙ or_right _ _ (is_in-true p (len, end) from (omega arith))) in
    flags_in-append new 0 len n end len e (omega arith) ∙ cc

-- ---- a walk

same_some_range : {x y : ℕ × ℕ} → Some x ≡ Some y → x ≡ y
same_some_range e = cc

no_some_range : {x : ℕ × ℕ} (o : Option (ℕ × ℕ)) → o ≡ None → o ≡ Some x → ⊥
no_some_range o none some = cc

AreRuns_weaker : (low high : ℕ) (runs : List (ℕ × ℕ)) → AreSeparate high runs → low ≤ high → AreSeparate low runs
AreRuns_weaker low high [] a h = tt
AreRuns_weaker low high (r ∷ runs) a h = (omega arith, a.1, a.2)

next_start_weaker : (low high : ℕ) (runs : List (ℕ × ℕ)) → low ≤ high → next_start low runs ≤ next_start high runs
next_start_weaker low high [] h = h
next_start_weaker low high (r ∷ runs) h = omega arith

-- a first run that ends at `at` or before can be left out
pub IsRest-next : (runs rest : List (ℕ × ℕ)) (at : ℕ) (d : ℕ × ℕ) → IsRest runs rest at → 0 < length rest → (get_or rest 0 d).1 ≤ at → IsRest runs (drop 1 rest) at
IsRest-next runs [] at d is some past = absurd (omega arith)
IsRest-next runs (r ∷ rest) at d is some past =
    let ended : r.1 ≤ at = past in
    record {
      apart = AreRuns_weaker 0 (r.1 + 1) rest is.apart.2 (omega arith);
      within = λ len w. omega (arith, is.within len w, next_start_weaker 0 (r.1 + 1) rest (omega arith));
      members = λ p from. sym (ap (λ b. b || is_in_some rest p) (is_in-after p r (omega arith))) ∙ is.members p from;
    }

same_some : {x y : Bool} → Some x ≡ Some y → x ≡ y
same_some e = cc

no_some : {x : Bool} (o : Option Bool) → o ≡ None → o ≡ Some x → ⊥
no_some o none some = cc

not_itself : (b : Bool) → not b ≡ b → ⊥
not_itself true e = false≢true e
not_itself false e = true≢false e

-- the flag after a stretch is another one, or there is none
differs : (runs : List (ℕ × ℕ)) (at len n : ℕ) (b : Bool) → at + n ≤ len → (at + n < len → is_in_some runs (at + n) ≡ not b) → (at + n < len) ⊎ (len ≤ at + n) → slice_get (flags_in runs at (len - at)) n ≡ Some b → ⊥
differs runs at len n b within next (inl more) e =
    not_itself b (same_some (sym (slice_get-flags_in runs at (len - at) n (at + n) (omega arith) refl ∙ ap (λ f. Some f) (next more)) ∙ e))
differs runs at len n b within next (inr none) e =
    no_some _ (slice_get_past (flags_in runs at (len - at)) n (omega (arith, length-flags_in runs at (len - at)))) e

-- the stretch of n positions from `at` on that are all members or all none, where the next position is not like them
pub IsFront-flags_in : (runs : List (ℕ × ℕ)) (at len n : ℕ) (b : Bool) → 0 < n → at + n ≤ len → ((p : ℕ) → at ≤ p → p < at + n → is_in_some runs p ≡ b) → (at + n < len → is_in_some runs (at + n) ≡ not b) → IsFront (flags_in runs at (len - at)) (record { len = n; member = b })
IsFront-flags_in runs at len n b some within all next = record {
  some = some;
  same =
      flags_in-append runs at n (len - at - n) (len - at) (at + n) (omega arith) refl
      ∙ (ap (λ front. front ++ flags_in runs (at + n) (len - at - n)) (flags_in_all runs at n b all)
      ∙ ap (λ rest. replicate n b ++ rest) (sym (drop-flags_in runs at n (len - at) (at + n) (omega arith) refl)));
  longest = λ e. differs runs at len n b within next (cases_lt (at + n) len) e;
}

-- ---- what a subset keeps

pub IsStored-none : (len : ℕ) → IsStored [] len 0
IsStored-none len = record {
  apart = tt;
  within = omega arith;
  counted = sym (ap count (flags_in-none 0 len) ∙ count-replicate_false len);
}

pub IsStored-grown : (runs : List (ℕ × ℕ)) (len n members : ℕ) → IsStored runs len members → IsStored runs (len + n) members
IsStored-grown runs len n members kept =
    let flags = flags_in-grown runs len n (len + n) kept.apart kept.within refl in
    record {
      apart = kept.apart;
      within = omega (arith, kept.within);
      counted =
          kept.counted
          ∙ sym (ap count flags ∙ (count-append (flags_in runs 0 len) (replicate n false) ∙ omega (arith, count-replicate_false n)));
    }

pub IsStored-added : (old new : List (ℕ × ℕ)) (len n members : ℕ) → IsStored old len members → AddsRun 0 old new len (len + n) → IsStored new (len + n) (members + n)
IsStored-added old new len n members kept adds =
    let flags = flags_in-added old new len n (len + n) kept.apart kept.within adds refl in
    record {
      apart = adds.apart;
      within = omega (arith, adds.within);
      counted =
          omega (arith, kept.counted, ap count flags, count-append (flags_in old 0 len) (replicate n true), count-replicate_true n);
    }

-- ---- the front of a walk

pub IsFront-gap : (runs : List (ℕ × ℕ)) (at len : ℕ) (first : ℕ × ℕ) → IsAhead runs at len → slice_get runs 0 ≡ Some first → at < first.0 → IsFront (flags_in runs at (len - at)) (record { len = first.0 - at; member = false })
IsFront-gap [] at len first ahead e h = absurd (no_some_range _ refl e)
IsFront-gap (r ∷ runs) at len first ahead e h =
    let same : r ≡ first = same_some_range e in
    let before : at < r.0 = subst (λ (x : ℕ × ℕ). at < x.0) (sym same) h in
    let end = next_start-le (r.1 + 1) runs ahead.apart.2 in
    let front : IsFront (flags_in (r ∷ runs) at (len - at)) (record { len = r.0 - at; member = false }) =
    IsFront-flags_in (r ∷ runs) at len (r.0 - at) false (omega arith) (omega (arith, ahead.within))
    (λ p from to. or_from _ _ (is_in-before p r (omega arith)) (is_in_some-before (r.1 + 1) p runs ahead.apart.2 (omega arith)))
    (λ more. or_left _ _ (is_in-true (at + (r.0 - at)) r (omega arith) (omega arith)))
    in
    subst (λ (x : ℕ × ℕ). IsFront (flags_in (r ∷ runs) at (len - at)) (record { len = x.0 - at; member = false })) same front

pub IsFront-run : (runs : List (ℕ × ℕ)) (at len : ℕ) (first : ℕ × ℕ) → IsAhead runs at len → slice_get runs 0 ≡ Some first → first.0 ≤ at → IsFront (flags_in runs at (len - at)) (record { len = first.1 - at; member = true })
IsFront-run [] at len first ahead e h = absurd (no_some_range _ refl e)
IsFront-run (r ∷ runs) at len first ahead e h =
    let same : r ≡ first = same_some_range e in
    let from_here : r.0 ≤ at = subst (λ (x : ℕ × ℕ). x.0 ≤ at) (sym same) h in
    let here = ahead.ahead in
    let end = next_start-le (r.1 + 1) runs ahead.apart.2 in
    let front : IsFront (flags_in (r ∷ runs) at (len - at)) (record { len = r.1 - at; member = true }) =
    IsFront-flags_in (r ∷ runs) at len (r.1 - at) true (omega arith) (omega (arith, ahead.within))
    (λ p from to. or_left _ _ (is_in-true p r (omega arith) (omega arith)))
    (λ more. or_from _ _ (is_in-after (at + (r.1 - at)) r (omega arith)) (is_in_some-before (r.1 + 1) (at + (r.1 - at)) runs ahead.apart.2 (omega arith)))
    in
    subst (λ (x : ℕ × ℕ). IsFront (flags_in (r ∷ runs) at (len - at)) (record { len = x.1 - at; member = true })) same front

pub IsFront-end : (runs : List (ℕ × ℕ)) (at len : ℕ) → slice_get runs 0 ≡ None → at < len → IsFront (flags_in runs at (len - at)) (record { len = len - at; member = false })
IsFront-end [] at len e h =
    IsFront-flags_in [] at len (len - at) false (omega arith) (omega arith) (λ p from to. refl) (λ more. absurd (omega arith))
IsFront-end (r ∷ runs) at len e h = absurd (no_some_range _ e refl)

-- positions are ahead where there are flags ahead
pub at_before : (runs : List (ℕ × ℕ)) (at len : ℕ) (flags : List Bool) → flags_in runs at (len - at) ≡ flags → (flags ≡ [] → ⊥) → at < len
at_before runs at len flags e some =
    elim (cases_lt at len) [
      | inl less ↦ less
      | inr none ↦ absurd (some (nil_from_length flags (omega (arith, ap length e, length-flags_in runs at (len - at)))))
    ]

-- ---- what `append` leaves

pub length_stored : (runs : List (ℕ × ℕ)) (len : ℕ) (flags : List Bool) → flags_in runs 0 len ≡ flags → length flags ≡ len
length_stored runs len flags e = ap length (sym e) ∙ length-flags_in runs 0 len

pub count_stored_le : (runs : List (ℕ × ℕ)) (len members : ℕ) → IsStored runs len members → members ≤ len
count_stored_le runs len members kept =
    omega (arith, kept.counted, count_le_length (flags_in runs 0 len), length-flags_in runs 0 len)

none_like : (n : ℕ) (member : Bool) → (member ≡ false) ⊎ (n ≡ 0) → replicate n false ≡ replicate n member
none_like n member (inl e) = ap (λ b. replicate n b) (sym e)
none_like n member (inr e) = rw e refl

pub appended_none : (runs : List (ℕ × ℕ)) (len n members : ℕ) (flags : List Bool) (member : Bool) → IsStored runs len members → flags_in runs 0 len ≡ flags → (member ≡ false) ⊎ (n ≡ 0) → flags_in runs 0 (len + n) ≡ flags ++ replicate n member
appended_none runs len n members flags member kept e none =
    let grown = flags_in-grown runs len n (len + n) kept.apart kept.within refl in
    let alike = none_like n member none in
    cc

pub appended_run : (old new : List (ℕ × ℕ)) (len n members : ℕ) (flags : List Bool) (member : Bool) → IsStored old len members → flags_in old 0 len ≡ flags → AddsRun 0 old new len (len + n) → member ≡ true → flags_in new 0 (len + n) ≡ flags ++ replicate n member
appended_run old new len n members flags member kept e adds is =
    let added = flags_in-added old new len n (len + n) kept.apart kept.within adds refl in
    cc

-- ---- what `skip` leaves

pub IsAhead-skip : (runs rest : List (ℕ × ℕ)) (at len n : ℕ) (flags : List Bool) → IsAhead runs at len → flags_in runs at (len - at) ≡ flags → n ≤ length flags → IsRest runs rest (at + n) → EndsAfter (at + n) rest → IsAhead rest (at + n) len
IsAhead-skip runs rest at len n flags ahead e h is ends = record {
  apart = is.apart;
  ahead = ends;
  within = is.within len ahead.within;
  reached = omega (arith, ahead.reached, ap length e, length-flags_in runs at (len - at));
}

pub skipped : (runs rest : List (ℕ × ℕ)) (at len n : ℕ) (flags : List Bool) → IsAhead runs at len → flags_in runs at (len - at) ≡ flags → n ≤ length flags → IsRest runs rest (at + n) → flags_in rest (at + n) (len - (at + n)) ≡ drop n flags
skipped runs rest at len n flags ahead e h is =
    let within : n ≤ len - at = omega (arith, ap length e, length-flags_in runs at (len - at)) in
    let far : len - (at + n) ≡ len - at - n = omega arith in
    let dropped = drop-flags_in runs at n (len - at) (at + n) within refl in
    let same = flags_in_same rest runs (at + n) (len - (at + n)) (λ p from to. is.members p from) in
    same ∙ (ap (λ k. flags_in runs (at + n) k) far ∙ (sym dropped ∙ ap (λ xs. drop n xs) e))

-- ---- a position looked up

-- at the first run that ends after the position
pub is_in_some-at : (low i k : ℕ) (runs : List (ℕ × ℕ)) (d : ℕ × ℕ) → AreSeparate low runs → k < length runs → ((j : ℕ) → j < k → (get_or runs j d).1 ≤ i) → i < (get_or runs k d).1 → is_in_some runs i ≡ leb (get_or runs k d).0 i
is_in_some-at low i k [] d a h before after = absurd (omega arith)
is_in_some-at low i zero (r ∷ runs) d a h before after =
    let rest = is_in_some-before (r.1 + 1) i runs a.2 (omega arith) in
    or_false _ _ rest ∙ (ap (λ b. leb r.0 i && b) (lt-ltb i r.1 after) ∙ and_true (leb r.0 i))
is_in_some-at low i (suc k) (r ∷ runs) d a h before after =
    rw (is_in-after i r (before 0 (omega arith))) (is_in_some-at (r.1 + 1) i k runs d a.2 (omega arith) (λ j less. before (suc j) (omega arith)) after)

-- past all of them
pub is_in_some-past : (i : ℕ) (runs : List (ℕ × ℕ)) (d : ℕ × ℕ) → ((j : ℕ) → j < length runs → (get_or runs j d).1 ≤ i) → is_in_some runs i ≡ false
is_in_some-past i [] d before = refl
is_in_some-past i (r ∷ runs) d before =
    rw (is_in-after i r (before 0 (omega arith))) (is_in_some-past i runs d (λ j less. before (suc j) (omega arith)))

ends_low : (low j : ℕ) (runs : List (ℕ × ℕ)) (d : ℕ × ℕ) → AreSeparate low runs → j < length runs → low ≤ (get_or runs j d).1
ends_low low j [] d a h = absurd (omega arith)
ends_low low zero (r ∷ runs) d a h = omega arith
ends_low low (suc j) (r ∷ runs) d a h = omega (arith, ends_low (r.1 + 1) j runs d a.2 (omega arith))

ends_rise_at : (low i j : ℕ) (runs : List (ℕ × ℕ)) (d : ℕ × ℕ) → AreSeparate low runs → i ≤ j → j < length runs → (get_or runs i d).1 ≤ (get_or runs j d).1
ends_rise_at low i j [] d a le h = absurd (omega arith)
ends_rise_at low zero zero (r ∷ runs) d a le h = omega arith
ends_rise_at low zero (suc j) (r ∷ runs) d a le h = omega (arith, ends_low (r.1 + 1) j runs d a.2 (omega arith))
ends_rise_at low (suc i) zero (r ∷ runs) d a le h = absurd (omega arith)
ends_rise_at low (suc i) (suc j) (r ∷ runs) d a le h = ends_rise_at (r.1 + 1) i j runs d a.2 (omega arith) (omega arith)

-- the ends of runs rise
pub ends_rise : (low : ℕ) (runs : List (ℕ × ℕ)) → AreSeparate low runs → IsNonDecreasingBy (λ (r : ℕ × ℕ). r.1) runs
ends_rise low runs a = λ i j d le less. ends_rise_at low i j runs d a le less

pub contains-stored : (runs : List (ℕ × ℕ)) (len members i : ℕ) (flags : List Bool) → IsStored runs len members → flags_in runs 0 len ≡ flags → is_in_some runs i ≡ contains flags i
contains-stored runs len members i flags kept e =
    elim (cases_lt i len) [
      | inl less ↦ sym (ap (λ xs. contains xs i) (sym e) ∙ get_or-map-range_with_len (is_in_some runs) 0 len i i false less (omega arith))
      | inr past ↦
          is_in_some-after 0 i runs kept.apart (omega (arith, kept.within))
          ∙ sym (get_or_past flags i false (omega (arith, length_stored runs len flags e)))
    ]
