-- Flags that are put run by run are those of a test.
use Rattle.std.proofs.Common.{◌≡◌, inl, inr, ℕ, zero, suc, ◌+◌, ◌-◌, ◌<◌, ◌≤◌, Bool, true, false, List, [], ◌∷◌, ◌++◌, length, map, replicate, refl, ap, ap₂, sym, ◌∙◌, arith, length-append}
use Rattle.std.specs.Prelude.{◌&&◌, ◌||◌, max, nat_le, nat_lt}
use Rattle.std.specs.List.{range_with_len}
use Rattle.std.proofs.lemmas.Bool.{and_right, cases_lt, le-leb, le-ltb, lt-leb, lt-ltb}
use Rattle.std.proofs.lemmas.List.{length-replicate}
use Rattle.line_stays.specs.Inner.{flags_by, reach_within, with_run}

or-false : (a : Bool) → (a || false) ≡ a
or-false true = refl
or-false false = refl

or-assoc : (a b c : Bool) → (a || (b || c)) ≡ ((a || b) || c)
or-assoc true b c = refl
or-assoc false b c = refl

-- ---- whether a number is in a run

abbrev pub in_run : ℕ → ℕ → ℕ → Bool
in_run start end i = nat_le start i && nat_lt i end

in-yes : (start end i : ℕ) → start ≤ i → i < end → in_run start end i ≡ true
in-yes start end i low high = ap₂ (λ a b. a && b) (le-leb start i low) (lt-ltb i end high)

in-before : (start end i : ℕ) → i < start → in_run start end i ≡ false
in-before start end i less = ap (λ b. b && nat_lt i end) (lt-leb start i less)

in-past : (start end i : ℕ) → end ≤ i → in_run start end i ≡ false
in-past start end i more = and_right (nat_le start i) (nat_lt i end) (le-ltb i end more)

module _ (from : ℕ) where
  -- ---- the flags of a test

  flags-split : (test : ℕ → Bool) (at len k : ℕ) → map (λ i. test (from + i)) (range_with_len at (len + k)) ≡
      map (λ i. test (from + i)) (range_with_len at len) ++ map (λ i. test (from + i)) (range_with_len (at + len) k)
  flags-split test at zero k =
      ap₂ (λ a m. map (λ i. test (from + i)) (range_with_len a m)) (let here : at ≡ at + 0 = omega arith in here) (let none : 0 + k ≡ k = omega arith in none)
  flags-split test at (suc len) k =
      ap (λ m. map (λ i. test (from + i)) (range_with_len at m)) (let on : suc len + k ≡ suc (len + k) = omega arith in on) ∙
      ap (λ fs. test (from + at) ∷ fs)
      (flags-split test (at + 1) len k ∙
      ap (λ a. map (λ i. test (from + i)) (range_with_len (at + 1) len) ++ map (λ i. test (from + i)) (range_with_len a k))
      (let on : at + 1 + len ≡ at + suc len = omega arith in on))

  flags-alike : (test : ℕ → Bool) (b : Bool) (at k : ℕ) → ((i : ℕ) → at ≤ i → i < at + k → test (from + i) ≡ b) →
      replicate k b ≡ map (λ i. test (from + i)) (range_with_len at k)
  flags-alike test b at zero each = refl
  flags-alike test b at (suc k) each =
      ap₂ (λ f fs. f ∷ fs) (sym (each at (omega arith) (omega arith)))
      (flags-alike test b (at + 1) k (λ i low high. each i (omega (arith, low)) (omega (arith, high))))

  flags-other : (test other : ℕ → Bool) (at k : ℕ) → ((i : ℕ) → at ≤ i → i < at + k → test (from + i) ≡ other (from + i)) →
      map (λ i. test (from + i)) (range_with_len at k) ≡ map (λ i. other (from + i)) (range_with_len at k)
  flags-other test other at zero each = refl
  flags-other test other at (suc k) each =
      ap₂ (λ f fs. f ∷ fs) (each at (omega arith) (omega arith))
      (flags-other test other (at + 1) k (λ i low high. each i (omega (arith, low)) (omega (arith, high))))

  -- two tests that are one on these give the same flags
  pub flags-same : (test other : ℕ → Bool) (n : ℕ) → ((k : ℕ) → k < n → test (from + k) ≡ other (from + k)) → flags_by test from n ≡ flags_by other from n
  flags-same test other n each = flags-other test other 0 n (λ k past less. each k (omega (arith, less)))

  -- flags of one kind behind them
  pub flags-put : (test : ℕ → Bool) (b : Bool) (flags : List Bool) (k : ℕ) → flags ≡ flags_by test from (length flags) →
      ((i : ℕ) → length flags ≤ i → i < length flags + k → test (from + i) ≡ b) → flags ++ replicate k b ≡ flags_by test from (length flags + k)
  flags-put test b flags k is each =
      ap₂ (λ fs gs. fs ++ gs) is
      (flags-alike test b (length flags) k each ∙
      ap (λ a. map (λ i. test (from + i)) (range_with_len a k)) (let here : length flags ≡ 0 + length flags = omega arith in here)) ∙
      sym (flags-split test 0 (length flags) k)

  -- ---- the flags so far

  module _ (n : ℕ) where
    -- they are those of a test, which holds of none behind them; from a low gap on it holds of each of them
    pub record AreSoFar (test : ℕ → Bool) (low : ℕ) (flags : List Bool) : Type 0 where
      pub is : flags ≡ flags_by test from (length flags)
      pub room : length flags ≤ n
      pub ahead : (k : ℕ) → length flags ≤ k → k < n → test (from + k) ≡ false
      pub covered : (k : ℕ) → k < length flags → low ≤ from + k → test (from + k) ≡ true

    module _ (test next : ℕ → Bool) (low start end more : ℕ) (flags : List Bool) (so_far : AreSoFar test low flags) (rises : low ≤ start)
        (runs : start ≤ more) (ends : end ≤ more + 1) (is_next : (k : ℕ) → k < n → next (from + k) ≡ (test (from + k) || in_run start end (from + k))) where
      abbrev first : List Bool
      first = flags ++ replicate (reach_within from n start - length flags) false

      long : length first ≡ length flags + (reach_within from n start - length flags)
      long = length-append flags (replicate (reach_within from n start - length flags) false) ∙
          ap (λ m. length flags + m) (length-replicate (reach_within from n start - length flags) false)

      length-run : length (with_run from n start end flags) ≡ length first + (reach_within from n end - max (reach_within from n start) (length flags))
      length-run =
          length-append first (replicate (reach_within from n end - max (reach_within from n start) (length flags)) true) ∙
          ap (λ m. length first + m) (length-replicate (reach_within from n end - max (reach_within from n start) (length flags)) true)

      -- a flag that is there stays
      next-left : (k : ℕ) → k < length flags → test (from + k) ≡ next (from + k)
      next-left k less = elim (cases_lt (from + k) start) [
        | inl before ↦ sym (is_next k (omega (arith, less, so_far.room)) ∙ ap (λ b. test (from + k) || b) (in-before start end (from + k) before) ∙ or-false (test (from + k)))
        | inr past ↦
            let here = so_far.covered k less (omega (arith, past, rises)) in
            here ∙ sym (is_next k (omega (arith, less, so_far.room)) ∙ ap (λ b. b || in_run start end (from + k)) here)
      ]

      next-none : (k : ℕ) → length flags ≤ k → k < n → in_run start end (from + k) ≡ false → next (from + k) ≡ false
      next-none k past less none = is_next k less ∙ ap₂ (λ a b. a || b) (so_far.ahead k past less) none

      next-some : (k : ℕ) → length flags ≤ k → k < n → in_run start end (from + k) ≡ true → next (from + k) ≡ true
      next-some k past less some = is_next k less ∙ ap₂ (λ a b. a || b) (so_far.ahead k past less) some

      first-is : first ≡ flags_by next from (length first)
      first-is =
          flags-put next false flags (reach_within from n start - length flags)
          (so_far.is ∙ flags-other test next 0 (length flags) (λ k past less. next-left k (omega (arith, less))))
          (λ k past less. next-none k past (omega (arith, less)) (in-before start end (from + k) (omega (arith, past, less)))) ∙
          ap (flags_by next from) (sym long)

      pub put-step : AreSoFar next more (with_run from n start end flags)
      put-step = record {
        is =
            flags-put next true first (reach_within from n end - max (reach_within from n start) (length flags)) first-is
            (λ k past less. next-some k (omega (arith, past, long)) (omega (arith, past, less, long, so_far.room))
            (in-yes start end (from + k) (omega (arith, past, less, long)) (omega (arith, past, less, long)))) ∙
            ap (flags_by next from) (sym length-run);
        room = omega (arith, length-run, long, so_far.room);
        ahead = λ k past less. next-none k (omega (arith, past, length-run, long)) less (elim (cases_lt (from + k) start) [
          | inl before ↦ in-before start end (from + k) before
          | inr behind ↦ in-past start end (from + k) (omega (arith, behind, past, less, length-run, long))
        ]);
        covered = λ k less high. elim (cases_lt k (length flags)) [
          | inl there ↦ sym (next-left k there) ∙ so_far.covered k there (omega (arith, high, runs, rises))
          | inr past ↦
              next-some k past (omega (arith, less, length-run, long, so_far.room))
              (in-yes start end (from + k) (omega (arith, high, runs)) (omega (arith, less, past, length-run, long, high, ends)))
        ];
      }

    -- ---- flags in the making

    -- the flags so far, of what all pass the test; the rest is ahead
    pub record AreGathered (all rest : ℕ → Bool) (low : ℕ) (flags : List Bool) : Type 0 where
      pub test : ℕ → Bool
      pub so_far : AreSoFar test low flags
      pub splits : (k : ℕ) → k < n → all (from + k) ≡ (test (from + k) || rest (from + k))

    pub gathered-none : (all : ℕ → Bool) → AreGathered all all 0 []
    gathered-none all = record {
      test = λ i. false;
      so_far = record {
        is = refl;
        room = omega arith;
        ahead = λ k past less. refl;
        covered = λ k less high. absurd (omega (arith, less));
      };
      splits = λ k less. refl;
    }

    pub gathered-more : (all rest later : ℕ → Bool) (low start end more : ℕ) (flags : List Bool) → AreGathered all rest low flags → low ≤ start → start ≤ more →
        end ≤ more + 1 → ((k : ℕ) → k < n → rest (from + k) ≡ (in_run start end (from + k) || later (from + k))) →
        AreGathered all later more (with_run from n start end flags)
    gathered-more all rest later low start end more flags so rises runs ends parts = record {
      test = λ i. so.test i || in_run start end i;
      so_far = put-step so.test (λ i. so.test i || in_run start end i) low start end more flags so.so_far rises runs ends (λ k less. refl);
      splits = λ k less.
          so.splits k less ∙ ap (λ b. so.test (from + k) || b) (parts k less) ∙ or-assoc (so.test (from + k)) (in_run start end (from + k)) (later (from + k));
    }

    pub gathered-all : (all rest : ℕ → Bool) (low : ℕ) (flags : List Bool) → AreGathered all rest low flags → ((k : ℕ) → k < n → rest (from + k) ≡ false) →
        flags ++ replicate (n - length flags) false ≡ flags_by all from n
    gathered-all all rest low flags so none =
        let room = so.so_far.room in
        flags-put so.test false flags (n - length flags) so.so_far.is (λ k past less. so.so_far.ahead k past (omega (arith, less, room))) ∙
        ap (flags_by so.test from) (let full : length flags + (n - length flags) ≡ n = omega (arith, room) in full) ∙
        flags-other so.test all 0 n
        (λ k past less. sym (so.splits k (omega (arith, less)) ∙ ap (λ b. so.test (from + k) || b) (none k (omega (arith, less))) ∙ or-false (so.test (from + k))))

-- a run behind flags, put in two parts
pub run-put : (from n start end low high : ℕ) (flags mid made : List Bool) → low ≡ reach_within from n start → high ≡ reach_within from n end →
    mid ≡ flags ++ replicate (low - length flags) false → made ≡ mid ++ replicate (high - length mid) true → made ≡ with_run from n start end flags
run-put from n start end low high flags mid made low_is high_is mid_is made_is =
    let long : length mid ≡ max low (length flags) =
    omega (arith, ap length mid_is, length-append flags (replicate (low - length flags) false), length-replicate (low - length flags) false) in
    made_is ∙ ap₂ (λ (xs : List Bool) (k : ℕ). xs ++ replicate k true) mid_is (ap (λ k. high - k) long) ∙
    ap₂ (λ l h. (flags ++ replicate (l - length flags) false) ++ replicate (h - max l (length flags)) true) low_is high_is
