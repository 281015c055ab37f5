-- Runs in order: which numbers they have, what a search finds, and one more run at their end.
use Rattle.std.proofs.Common.{◌≡◌, ℕ, zero, suc, ◌+◌, ◌-◌, ◌<◌, ◌≤◌, Bool, true, false, ◌||◌, ◌&&◌, ◌==◌, leb, List, [], ◌∷◌, ◌++◌, length, set, get_or, ◌⊎◌, inl, inr, refl, ap, ap₂, sym, ◌∙◌, subst, arith}
use Rattle.std.specs.Prelude.{max}
use Rattle.std.specs.List.{range_with_len, AllByRecursion, fold}
use Rattle.std.specs.List.Sorted.{IsNonDecreasingBy}
use Rattle.std.proofs.lemmas.Bool.Decides.{nat_tests}
use Rattle.std.proofs.lemmas.Bool.{both_ways, cases_lt, eq-eqb}
use Rattle.std.proofs.lemmas.List.Folds.{list_any-append}
use Rattle.plain_text.specs.Numbers.{has, with_number, IsRising}
use Rattle.plain_text.proofs.callers.ListLemmas.{AllByRecursion-weaker}
use Rattle.plain_text.proofs.callers.NumberLemmas.{differ, has-with_numbers, IsRising-with_numbers}
use Rattle.number_runs.specs.declared.run.NumberRun.{NumberRun}
use Rattle.number_runs.specs.Runs.{numbers_of, numbers_in, is_in, is_in_some, last_start, AreSeparate}
use Rattle.number_runs.specs.Inner.{Adds}

-- ---- whether a run has a number

pub is_in-before : (n : ℕ) (r : NumberRun) → n < r.start → is_in n r ≡ false
is_in-before n r a = grind (arith, nat_tests)

pub is_in-after : (n : ℕ) (r : NumberRun) → r.end < n → is_in n r ≡ false
is_in-after n r a = grind (arith, nat_tests)

is_in-by_start : (n : ℕ) (r : NumberRun) → n ≤ r.end → is_in n r ≡ leb r.start n
is_in-by_start n r a = grind (arith, nat_tests)

pub is_in-one : (n m : ℕ) → is_in m (record { start = n; end = n }) ≡ (n == m)
is_in-one n m = grind (arith, nat_tests)

or_false : (x y : Bool) → y ≡ false → (x || y) ≡ x
or_false true y e = refl
or_false false y e = e

pub or_assoc : (x y z : Bool) → (x || (y || z)) ≡ ((x || y) || z)
or_assoc true y z = refl
or_assoc false y z = refl

pub AreSeparate-weaker : (low high : ℕ) (runs : List NumberRun) → AreSeparate high runs → low ≤ high → AreSeparate low runs
AreSeparate-weaker low high [] a h = tt
AreSeparate-weaker low high (r ∷ runs) a h = (omega arith, a.1, a.2)

is_in_some-before : (low n : ℕ) (runs : List NumberRun) → AreSeparate low runs → n < low → is_in_some runs n ≡ false
is_in_some-before low n [] a h = refl
is_in_some-before low n (r ∷ runs) a h = rw (is_in-before n r (omega arith)) (is_in_some-before (r.end + 2) n runs a.2 (omega arith))

-- ---- what a search finds

pub is_in_some-at : (low n k : ℕ) (runs : List NumberRun) (d : NumberRun) → AreSeparate low runs → k < length runs → ((j : ℕ) → j < k → (get_or runs j d).end < n) → n ≤ (get_or runs k d).end → is_in_some runs n ≡ leb (get_or runs k d).start n
is_in_some-at low n k [] d a h before after = absurd (omega arith)
is_in_some-at low n zero (r ∷ runs) d a h before after =
    or_false _ _ (is_in_some-before (r.end + 2) n runs a.2 (omega arith)) ∙ is_in-by_start n r after
is_in_some-at low n (suc k) (r ∷ runs) d a h before after =
    rw (is_in-after n r (before 0 (omega arith))) (is_in_some-at (r.end + 2) n k runs d a.2 (omega arith) (λ j less. before (suc j) (omega arith)) after)

-- past all of them
pub is_in_some-past : (n : ℕ) (runs : List NumberRun) (d : NumberRun) → ((j : ℕ) → j < length runs → (get_or runs j d).end < n) → is_in_some runs n ≡ false
is_in_some-past n [] d before = refl
is_in_some-past n (r ∷ runs) d before =
    rw (is_in-after n r (before 0 (omega arith))) (is_in_some-past n runs d (λ j less. before (suc j) (omega arith)))

ends_low : (low j : ℕ) (runs : List NumberRun) (d : NumberRun) → AreSeparate low runs → j < length runs → low ≤ (get_or runs j d).end
ends_low low j [] d a h = absurd (omega arith)
ends_low low zero (r ∷ runs) d a h = omega (arith, a.0, a.1)
ends_low low (suc j) (r ∷ runs) d a h = omega (arith, a.0, a.1, ends_low (r.end + 2) j runs d a.2 (omega arith))

ends_rise_at : (low i j : ℕ) (runs : List NumberRun) (d : NumberRun) → AreSeparate low runs → i ≤ j → j < length runs → (get_or runs i d).end ≤ (get_or runs j d).end
ends_rise_at low i j [] d a le h = absurd (omega arith)
ends_rise_at low zero zero (r ∷ runs) d a le h = omega arith
ends_rise_at low zero (suc j) (r ∷ runs) d a le h = omega (arith, ends_low (r.end + 2) j runs d a.2 (omega arith))
ends_rise_at low (suc i) zero (r ∷ runs) d a le h = absurd (omega arith)
ends_rise_at low (suc i) (suc j) (r ∷ runs) d a le h = ends_rise_at (r.end + 2) i j runs d a.2 (omega arith) (omega arith)

-- the ends of runs rise
pub ends_rise : (low : ℕ) (runs : List NumberRun) → AreSeparate low runs → IsNonDecreasingBy (λ (r : NumberRun). r.end) runs
ends_rise low runs a = λ i j d le less. ends_rise_at low i j runs d a le less

-- ---- the numbers of runs

has-range : (a k n : ℕ) → has (range_with_len a k) n ≡ (leb a n && leb (n + 1) (a + k))
has-range a zero n = grind (arith, nat_tests)
has-range a (suc k) n = ap (λ b. a == n || b) (has-range (a + 1) k n) ∙ first a k n
  where
    first : (a k n : ℕ) → (a == n || (leb (a + 1) n && leb (n + 1) (a + 1 + k))) ≡ (leb a n && leb (n + 1) (a + suc k))
    first a k n = grind (arith, nat_tests)

has-of : (r : NumberRun) (n : ℕ) → r.start ≤ r.end → has (numbers_of r) n ≡ is_in n r
has-of r n le = has-range r.start (r.end + 1 - r.start) n ∙ grind (arith, nat_tests)

pub has-in : (low : ℕ) (runs : List NumberRun) (n : ℕ) → AreSeparate low runs → has (numbers_in runs) n ≡ is_in_some runs n
has-in low [] n a = refl
has-in low (r ∷ runs) n a =
    list_any-append (λ m. m == n) (numbers_of r) (numbers_in runs) ∙ ap₂ (λ a b. a || b) (has-of r n a.1) (has-in (r.end + 2) runs n a.2)

-- the numbers of a range, and greater ones after them
range_then : (a k : ℕ) (ys : List ℕ) → IsRising ys → AllByRecursion (λ m. a + k ≤ m) ys → IsRising (range_with_len a k ++ ys) × AllByRecursion (λ m. a ≤ m) (range_with_len a k ++ ys)
range_then a zero ys up all = (up, AllByRecursion-weaker (λ m. a + 0 ≤ m) (λ m. a ≤ m) (λ m le. omega arith) ys all)
range_then a (suc k) ys up all =
    let rest = range_then (a + 1) k ys up (AllByRecursion-weaker (λ m. a + suc k ≤ m) (λ m. a + 1 + k ≤ m) (λ m le. omega arith) ys all) in (
      (AllByRecursion-weaker (λ m. a + 1 ≤ m) (λ m. a < m) (λ m le. omega arith) (range_with_len (a + 1) k ++ ys) rest.1, rest.0),
      (omega arith, AllByRecursion-weaker (λ m. a + 1 ≤ m) (λ m. a ≤ m) (λ m le. omega arith) (range_with_len (a + 1) k ++ ys) rest.1),
    )

rising_from : (low : ℕ) (runs : List NumberRun) → AreSeparate low runs → IsRising (numbers_in runs) × AllByRecursion (λ m. low ≤ m) (numbers_in runs)
rising_from low [] a = (tt, tt)
rising_from low (r ∷ runs) a =
    let rest = rising_from (r.end + 2) runs a.2 in
    let whole = range_then r.start (r.end + 1 - r.start) (numbers_in runs) rest.0
    (AllByRecursion-weaker (λ m. r.end + 2 ≤ m) (λ m. r.start + (r.end + 1 - r.start) ≤ m) (λ m le. omega (arith, a.1, le)) (numbers_in runs) rest.1) in
    (whole.0, AllByRecursion-weaker (λ m. r.start ≤ m) (λ m. low ≤ m) (λ m le. omega (arith, a.0, le)) (numbers_in (r ∷ runs)) whole.1)

pub numbers_rise : (runs : List NumberRun) → AreSeparate 0 runs → IsRising (numbers_in runs)
numbers_rise runs a = let both = rising_from 0 runs a in both.0

-- ---- a set is no more than its numbers

none_above : (n m : ℕ) (xs : List ℕ) → AllByRecursion (λ k. n < k) xs → m ≤ n → has xs m ≡ false
none_above n m [] above le = refl
none_above n m (x ∷ xs) above le =
    ap (λ b. b || has xs m) (differ x m (λ same. omega (arith, same, above.0))) ∙ none_above n m xs above.1 le

has-first : (x : ℕ) (xs : List ℕ) → has (x ∷ xs) x ≡ true
has-first x xs = ap (λ b. b || has xs x) (eq-eqb x x refl)

has-other : (x m : ℕ) (xs : List ℕ) → (x ≡ m → ⊥) → has (x ∷ xs) m ≡ has xs m
has-other x m xs other = ap (λ b. b || has xs m) (differ x m other)

not_below : (x y : ℕ) (xs ys : List ℕ) → IsRising (y ∷ ys) → ((m : ℕ) → has (x ∷ xs) m ≡ has (y ∷ ys) m) → x < y → ⊥
not_below x y xs ys up same below =
    both_ways (has (x ∷ xs) x)
    (same x ∙ has-other y x ys (λ is. omega (arith, is, below)) ∙ none_above y x ys up.0 (omega (arith, below))) (has-first x xs)

same_rest : (x y : ℕ) (xs ys : List ℕ) → IsRising (x ∷ xs) → IsRising (y ∷ ys) → x ≡ y → ((m : ℕ) → has (x ∷ xs) m ≡ has (y ∷ ys) m) → (m : ℕ) → has xs m ≡ has ys m
same_rest x y xs ys up others is same m =
    elim (cases_lt x m) [
      | inl above ↦ sym (has-other x m xs (λ e. omega (arith, e, above))) ∙ same m ∙ has-other y m ys (λ e. omega (arith, e, above, is))
      | inr le ↦ none_above x m xs up.0 le ∙ sym (none_above y m ys others.0 (omega (arith, le, is)))
    ]

same_first : (x y : ℕ) (xs ys : List ℕ) → IsRising (x ∷ xs) → IsRising (y ∷ ys) → ((m : ℕ) → has (x ∷ xs) m ≡ has (y ∷ ys) m) → x ≡ y
same_first x y xs ys up others same =
    elim (cases_lt x y) [
      | inl below ↦ absurd (not_below x y xs ys others same below)
      | inr low ↦ elim (cases_lt y x) [
        | inl below ↦ absurd (not_below y x ys xs up (λ m. sym (same m)) below)
        | inr high ↦ omega (arith, low, high)
      ]
    ]

rising_same : (xs ys : List ℕ) → IsRising xs → IsRising ys → ((m : ℕ) → has xs m ≡ has ys m) → xs ≡ ys
rising_same [] [] up others same = refl
rising_same [] (y ∷ ys) up others same = absurd (both_ways (has (y ∷ ys) y) (sym (same y)) (has-first y ys))
rising_same (x ∷ xs) [] up others same = absurd (both_ways (has (x ∷ xs) x) (same x) (has-first x xs))
rising_same (x ∷ xs) (y ∷ ys) up others same =
    let is = same_first x y xs ys up others same in
    ap₂ (λ n rest. n ∷ rest) is (rising_same xs ys up.1 others.1 (same_rest x y xs ys up others is same))

-- runs that have further numbers are those of the set with them
pub numbers_in-with : (old new : List NumberRun) (more : List ℕ) → AreSeparate 0 old → AreSeparate 0 new → ((n : ℕ) → is_in_some new n ≡ (is_in_some old n || has more n)) → numbers_in new ≡ fold with_number (numbers_in old) more
numbers_in-with old new more apart made numbers =
    rising_same (numbers_in new) (fold with_number (numbers_in old) more) (numbers_rise new made) (IsRising-with_numbers (numbers_in old) more (numbers_rise old apart))
    (λ n. has-in 0 new n made ∙ numbers n ∙ ap (λ b. b || has more n) (sym (has-in 0 old n apart)) ∙ sym (has-with_numbers (numbers_in old) more n))

-- ---- one more run at the end

joined : (n s e t f g : ℕ) → s ≤ t → t ≤ e + 1 → t ≤ f → e ≤ g → f ≤ g → (g ≡ e) ⊎ (g ≡ f) → ((leb s n && leb n g) || false) ≡ (((leb s n && leb n e) || false) || (leb t n && leb n f))
joined n s e t f g a b c d h (inl is) = grind (arith, nat_tests)
joined n s e t f g a b c d h (inr is) = grind (arith, nat_tests)

-- the greater of two ends
pub greater_end : (e f g : ℕ) → g ≡ max e f → (e ≤ g) × (f ≤ g) × ((g ≡ e) ⊎ (g ≡ f))
greater_end e f g is =
    elim (cases_lt e f) [
      | inl lt ↦ (grind arith, grind arith, inr (grind arith))
      | inr le ↦ (grind arith, grind arith, inl (grind arith))
    ]

-- the last run, made longer
pub Adds-longer : (low from i : ℕ) (runs : List NumberRun) (last run : NumberRun) (end : ℕ) → AreSeparate low runs → i + 1 ≡ length runs → get_or runs i last ≡ last → last_start from runs ≤ run.start → run.start ≤ last.end + 1 → run.start ≤ run.end → last.end ≤ end → run.end ≤ end → (end ≡ last.end) ⊎ (end ≡ run.end) → Adds low from runs (set runs i (record { start = last.start; end = end })) run
Adds-longer low from i [] last run end a e g by near order far over is = absurd (omega arith)
Adds-longer low from zero (r ∷ []) last run end a e g by near order far over is =
    subst (λ (x : NumberRun). Adds low from (r ∷ []) (record { start = x.start; end = end } ∷ []) run) g
    (from_first (subst (λ (x : NumberRun). run.start ≤ x.end + 1) (sym g) near) (subst (λ (x : NumberRun). x.end ≤ end) (sym g) far) (subst (λ (x : NumberRun). (end ≡ x.end) ⊎ (end ≡ run.end)) (sym g) is))
  where
    from_first : run.start ≤ r.end + 1 → r.end ≤ end → (end ≡ r.end) ⊎ (end ≡ run.end) → Adds low from (r ∷ []) (record { start = r.start; end = end } ∷ []) run
    from_first near far is = record {
      apart = (a.0, omega (arith, a.1, far), tt);
      by = by;
      numbers = λ n. joined n r.start r.end run.start run.end end by near order far over is;
    }
Adds-longer low from zero (r ∷ s ∷ runs) last run end a e g by near order far over is = absurd (omega arith)
Adds-longer low from (suc i) (r ∷ runs) last run end a e g by near order far over is =
    let more = Adds-longer (r.end + 2) r.start i runs last run end a.2 (omega arith) g by near order far over is in
    record {
      apart = (a.0, a.1, more.apart);
      by = more.by;
      numbers = λ n. ap (λ b. is_in n r || b) (more.numbers n) ∙ or_assoc (is_in n r) _ _;
    }

-- what starts after the last run does not touch it
abbrev pub IsFree : ℕ → List NumberRun → Type 0
IsFree start [] = Unit {0}
IsFree start (r ∷ []) = r.end + 2 ≤ start
IsFree start (r ∷ s ∷ runs) = IsFree start (s ∷ runs)

pub free_last : (i : ℕ) (runs : List NumberRun) (last : NumberRun) (start : ℕ) → i + 1 ≡ length runs → get_or runs i last ≡ last → last.end + 2 ≤ start → IsFree start runs
free_last i [] last start e g far = tt
free_last zero (r ∷ []) last start e g far = subst (λ (x : NumberRun). x.end + 2 ≤ start) (sym g) far
free_last (suc i) (r ∷ []) last start e g far = absurd (omega arith)
free_last zero (r ∷ s ∷ runs) last start e g far = absurd (omega arith)
free_last (suc i) (r ∷ s ∷ runs) last start e g far = free_last i (s ∷ runs) last start (omega arith) g far

pub free_none : (runs : List NumberRun) (start : ℕ) → length runs ≡ 0 → IsFree start runs
free_none [] start e = tt
free_none (r ∷ runs) start e = absurd (omega arith)

-- a run at the end
pub Adds-push : (low from : ℕ) (runs : List NumberRun) (run : NumberRun) → AreSeparate low runs → IsFree run.start runs → low ≤ run.start → run.start ≤ run.end → Adds low from runs (runs ++ run ∷ []) run
Adds-push low from [] run a free le order = record {
  apart = (le, order, tt);
  by = omega arith;
  numbers = λ n. or_false (is_in n run) false refl;
}
Adds-push low from (r ∷ []) run a free le order = record {
  apart = (a.0, a.1, (free, order, tt));
  by = omega arith;
  numbers = λ n. or_assoc (is_in n r) (is_in n run) false ∙ or_false _ false refl ∙ ap (λ b. b || is_in n run) (sym (or_false (is_in n r) false refl));
}
Adds-push low from (r ∷ s ∷ runs) run a free le order =
    let more = Adds-push (r.end + 2) r.start (s ∷ runs) run a.2 free (beyond (r.end + 2) s runs a.2 free) order in
    record {
      apart = (a.0, a.1, more.apart);
      by = more.by;
      numbers = λ n. ap (λ b. is_in n r || b) (more.numbers n) ∙ or_assoc (is_in n r) _ _;
    }
  where
    beyond : (low : ℕ) (s : NumberRun) (runs : List NumberRun) → AreSeparate low (s ∷ runs) → IsFree run.start (s ∷ runs) → low ≤ run.start
    beyond low s [] a free = omega (arith, a.0, a.1, free)
    beyond low s (t ∷ runs) a free = omega (arith, a.0, a.1, beyond (s.end + 2) t runs a.2 free)
