-- Ranges that are good, the first that is at fault, and the flags that good ones make.
use Rattle.std.proofs.Common.{◌≡◌, ℕ, ◌+◌, ◌-◌, ◌<◌, ◌≤◌, ◌⊎◌, inl, inr, Bool, true, false, ◌||◌, List, [], ◌∷◌, ◌++◌, length, drop, get_or, replicate, refl, ap, sym, ◌∙◌, subst, arith, ◌↔◌}
use Rattle.std.specs.Prelude.{suc, zero, Any, IsTrue}
use Rattle.std.proofs.lemmas.Bool.{cases_lt, or_from, or_left, or_right, or_cases, false≢true, and_parts, leb-true, ltb-true, true_from_ne_false}
use Rattle.std.proofs.lemmas.List.{drop_more, length-append, length-replicate, get_or_past}
use Rattle.std.proofs.lemmas.List.FromFn.{get_or-map-range_with_len}
use Rattle.subset_runs.specs.Ranges.{IsGood, IsRangeFault, IsFirstFault, AreGood, HasRanges}
use Rattle.subset_runs.specs.Runs.{is_in, is_in_some, flags_in, IsStored}
use Rattle.subset_runs.specs.Subset.{contains}
use Rattle.subset_runs.proofs.RunLemmas.{contains-stored, is_in-true, is_in-before, is_in-after, length-flags_in, flags_in-append, flags_in_all}

-- ---- the first fault

no_good_fault : (len low : ℕ) (r : ℕ × ℕ) → IsGood len low r → IsRangeFault len low r → ⊥
no_good_fault len low r good (inl bad) = omega arith
no_good_fault len low r good (inr (inl bad)) = omega arith
no_good_fault len low r good (inr (inr bad)) = omega arith

pub no_fault_where_good : (len low i : ℕ) (ranges : List (ℕ × ℕ)) → AreGood len low ranges → IsFirstFault len low ranges i → ⊥
no_fault_where_good len low i [] good bad = bad
no_fault_where_good len low zero (r ∷ ranges) good bad = no_good_fault len low r good.0 bad
no_fault_where_good len low (suc i) (r ∷ ranges) good bad = no_fault_where_good len r.1 i ranges good.1 bad.1

pub one_first_fault : (len low i j : ℕ) (ranges : List (ℕ × ℕ)) → IsFirstFault len low ranges i → IsFirstFault len low ranges j → i ≡ j
one_first_fault len low i j [] one other = absurd one
one_first_fault len low zero zero (r ∷ ranges) one other = refl
one_first_fault len low zero (suc j) (r ∷ ranges) one other = absurd (no_good_fault len low r other.0 one)
one_first_fault len low (suc i) zero (r ∷ ranges) one other = absurd (no_good_fault len low r one.0 other)
one_first_fault len low (suc i) (suc j) (r ∷ ranges) one other = omega (arith, one_first_fault len r.1 i j ranges one.1 other.1)

pub fault_here : (len low index : ℕ) (ranges : List (ℕ × ℕ)) (d : ℕ × ℕ) → index < length ranges → IsRangeFault len low (get_or ranges index d) → IsFirstFault len low (drop index ranges) 0
fault_here len low index ranges d h bad = rw (drop_more ranges index d h) bad

pub fault_later : (len low index i : ℕ) (ranges : List (ℕ × ℕ)) (d : ℕ × ℕ) → index < length ranges → IsGood len low (get_or ranges index d) → IsFirstFault len (get_or ranges index d).1 (drop (index + 1) ranges) i → IsFirstFault len low (drop index ranges) (suc i)
fault_later len low index i ranges d h good bad = rw (drop_more ranges index d h) (good, bad)

pub good_later : (len low index : ℕ) (ranges : List (ℕ × ℕ)) (d : ℕ × ℕ) → index < length ranges → IsGood len low (get_or ranges index d) → AreGood len (get_or ranges index d).1 (drop (index + 1) ranges) → AreGood len low (drop index ranges)
good_later len low index ranges d h good rest = rw (drop_more ranges index d h) (good, rest)

-- ---- flags of good ranges

-- the flags so far are those of all the ranges, of which the rest is still ahead
pub record IsFilled (ranges rest : List (ℕ × ℕ)) (len : ℕ) (out : List Bool) : Type 0 where
  pub so_far : out ≡ flags_in ranges 0 (length out)
  pub members : (p : ℕ) → length out ≤ p → is_in_some ranges p ≡ is_in_some rest p
  pub good : AreGood len (length out) rest
  pub within : length out ≤ len

is_in_some-low : (len low p : ℕ) (ranges : List (ℕ × ℕ)) → AreGood len low ranges → p < low → is_in_some ranges p ≡ false
is_in_some-low len low p [] good h = refl
is_in_some-low len low p (r ∷ ranges) good h =
    or_from _ _ (is_in-before p r (omega (arith, good.0))) (is_in_some-low len r.1 p ranges good.1 (omega (arith, good.0)))

is_in_some-high : (len low p : ℕ) (ranges : List (ℕ × ℕ)) → AreGood len low ranges → len ≤ p → is_in_some ranges p ≡ false
is_in_some-high len low p [] good h = refl
is_in_some-high len low p (r ∷ ranges) good h =
    or_from _ _ (is_in-after p r (omega (arith, good.0))) (is_in_some-high len r.1 p ranges good.1 h)

pub IsFilled-more : (ranges rest : List (ℕ × ℕ)) (r : ℕ × ℕ) (len : ℕ) (out gap new : List Bool) → IsFilled ranges (r ∷ rest) len out → gap ≡ out ++ replicate (r.0 - length out) false → new ≡ gap ++ replicate (r.1 - r.0) true → IsFilled ranges rest len new
IsFilled-more ranges rest r len out gap new filled to_start to_end =
    let at = length out in
    let good = filled.good.0 in
    let gap_len : length gap ≡ r.0 = omega (arith, ap length to_start, length-append out (replicate (r.0 - at) false), length-replicate (r.0 - at) false) in
    let new_len : length new ≡ r.1 = omega (arith, ap length to_end, length-append gap (replicate (r.1 - r.0) true), length-replicate (r.1 - r.0) true) in
    let gap_flags : flags_in ranges 0 r.0 ≡ flags_in ranges 0 at ++ replicate (r.0 - at) false =
    flags_in-append ranges 0 at (r.0 - at) r.0 at (omega arith) (omega arith)
    ∙ ap (λ xs. flags_in ranges 0 at ++ xs) (flags_in_all ranges at (r.0 - at) false (λ p from to.
    filled.members p from ∙ or_from _ _ (is_in-before p r (omega arith)) (is_in_some-low len r.1 p rest filled.good.1 (omega arith)))) in
    let new_flags : flags_in ranges 0 r.1 ≡ flags_in ranges 0 r.0 ++ replicate (r.1 - r.0) true =
    flags_in-append ranges 0 r.0 (r.1 - r.0) r.1 r.0 (omega arith) (omega arith)
    ∙ ap (λ xs. flags_in ranges 0 r.0 ++ xs) (flags_in_all ranges r.0 (r.1 - r.0) true (λ p from to.
    filled.members p (omega arith) ∙ or_left _ _ (is_in-true p r from (omega arith)))) in
    let so_far = filled.so_far in
    record {
      so_far = cc;
      members = λ p from. filled.members p (omega arith) ∙ ap (λ b. b || is_in_some rest p) (is_in-after p r (omega arith));
      good = subst (λ (k : ℕ). AreGood len k rest) (sym new_len) filled.good.1;
      within = omega arith;
    }

pub IsFilled-end : (ranges : List (ℕ × ℕ)) (len : ℕ) (out new : List Bool) → IsFilled ranges [] len out → new ≡ out ++ replicate (len - length out) false → new ≡ flags_in ranges 0 len
IsFilled-end ranges len out new filled to_end =
    let at = length out in
    let flags : flags_in ranges 0 len ≡ flags_in ranges 0 at ++ replicate (len - at) false =
    flags_in-append ranges 0 at (len - at) len at (omega (arith, filled.within)) (omega arith)
    ∙ ap (λ xs. flags_in ranges 0 at ++ xs) (flags_in_all ranges at (len - at) false (λ p from to. filled.members p from)) in
    let so_far = filled.so_far in
    cc

-- ---- the ranges as a set

any_range : (p : ℕ) (ranges : List (ℕ × ℕ)) → is_in_some ranges p ≡ true → Any (λ r. (r.0 ≤ p) × (p < r.1)) ranges
any_range p [] e = absurd (false≢true e)
any_range p (r ∷ ranges) e =
    elim (or_cases (is_in p r) (is_in_some ranges p) e) [
      | inl here ↦ let both = and_parts _ _ here in (0, r, omega arith, refl, (leb-true _ _ both.0, ltb-true _ _ both.1))
      | inr later ↦ let rest = any_range p ranges later in (suc rest.0, rest.1, omega (arith, rest.2), rest.3, rest.4)
    ]

in_any_range : (p k : ℕ) (x : ℕ × ℕ) (ranges : List (ℕ × ℕ)) → k < length ranges → get_or ranges k x ≡ x → x.0 ≤ p → p < x.1 → is_in_some ranges p ≡ true
in_any_range p k x [] h e from to = absurd (omega arith)
in_any_range p zero x (r ∷ ranges) h e from to = or_left (is_in p r) (is_in_some ranges p) (ap (is_in p) e ∙ is_in-true p x from to)
in_any_range p (suc k) x (r ∷ ranges) h e from to = or_right _ _ (in_any_range p k x ranges (omega arith) e from to)

contains-flags_in : (len low p : ℕ) (ranges : List (ℕ × ℕ)) → AreGood len low ranges → contains (flags_in ranges 0 len) p ≡ is_in_some ranges p
contains-flags_in len low p ranges good =
    elim (cases_lt p len) [
      | inl less ↦ get_or-map-range_with_len (is_in_some ranges) 0 len p p false less (omega arith)
      | inr past ↦
          get_or_past (flags_in ranges 0 len) p false (omega (arith, length-flags_in ranges 0 len))
          ∙ sym (is_in_some-high len low p ranges good past)
    ]

pub HasRanges-flags_in : (len : ℕ) (ranges : List (ℕ × ℕ)) → AreGood len 0 ranges → HasRanges len ranges (flags_in ranges 0 len)
HasRanges-flags_in len ranges good = record {
  len = length-flags_in ranges 0 len;
  members = λ p. (
    λ is. any_range p ranges (sym (contains-flags_in len 0 p ranges good) ∙ is),
    λ any.
        contains-flags_in len 0 p ranges good ∙ in_any_range p any.0 any.1 ranges any.2 any.3 any.4.0 any.4.1,
  );
}

-- so are the runs of a subset
pub HasRanges-stored : (runs : List (ℕ × ℕ)) (len members : ℕ) (flags : List Bool) → IsStored runs len members → flags_in runs 0 len ≡ flags → HasRanges (length flags) runs flags
HasRanges-stored runs len members flags stored e = record {
  len = refl;
  members = λ p.
      let same = contains-stored runs len members p flags stored e in
      (λ is. any_range p runs (same ∙ is), λ any. sym same ∙ in_any_range p any.0 any.1 runs any.2 any.3 any.4.0 any.4.1);
}
