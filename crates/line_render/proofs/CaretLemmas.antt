-- The gaps of carets, each once and rising, are those that a walk over the carets gives.
use Rattle.std.proofs.Common.{◌≡◌, ℕ, zero, suc, Bool, true, false, ◌+◌, ◌-◌, ◌<◌, ◌≤◌, List, [], ◌∷◌, length, get_or, drop, refl, ap, ap₂, sym, ◌∙◌, arith}
use Rattle.std.specs.Prelude.{not, nat_lt, nat_le, ◌&&◌, ◌||◌, ◌==◌, if◌then◌else◌}
use Rattle.std.specs.List.{filter, range_with_len}
use Rattle.std.proofs.lemmas.Bool.{eq-eqb, ne_eqb, le-leb}
use Rattle.std.proofs.lemmas.Bool.Decides.{nat_tests}
use Rattle.plain_text.specs.declared.selection.Region.{Region}
use Rattle.plain_text.specs.Numbers.{has}
use Rattle.selection_core.specs.Selection.{lesser_end, greater_end, IsSelection}
use Rattle.line_render.specs.Rendered.{carets_of}
use Rattle.line_render.specs.Inner.{shown_gaps, touching_regions}
use Rattle.line_render.proofs.OrderLemmas.{AreFrom, AreFrom-selection, AreFrom-lower, AreFrom-filter}

-- no number is below the one before it, and the first is not below this one
abbrev AreUp : ℕ → List ℕ → Type 0
AreUp low [] = Unit {0}
AreUp low (caret ∷ carets) = (low ≤ caret) × AreUp caret carets

AreUp-carets : (low : ℕ) (regions : List Region) → AreFrom low regions → AreUp low (carets_of regions)
AreUp-carets low [] are = tt
AreUp-carets low (region ∷ regions) are =
    let le = are.0 in
    (omega arith, AreUp-carets region.caret regions (AreFrom-lower region.caret (greater_end region) regions (omega arith) are.1))

or_none : (a b : Bool) → a ≡ false → b ≡ false → (a || b) ≡ false
or_none true b g h = cc
or_none false b g h = h

or_only : (a b : Bool) → a ≡ false → (a || b) ≡ b
or_only true b g = cc
or_only false b g = refl

or_first : (a b : Bool) → a ≡ true → (a || b) ≡ true
or_first true b g = refl
or_first false b g = cc

differ : (a b : ℕ) → (a ≡ b → ⊥) → (a == b) ≡ false
differ a b other = ne_eqb a b other

has-below : (low m : ℕ) (carets : List ℕ) → AreUp low carets → m < low → has carets m ≡ false
has-below low m [] up below = refl
has-below low m (caret ∷ carets) up below =
    let le = up.0 in
    or_none (caret == m) (has carets m) (differ caret m (λ same. omega arith)) (has-below caret m carets up.1 (omega arith))

-- ---- filters of a range

filter-same : (p q : ℕ → Bool) (low n : ℕ) → ((g : ℕ) → low ≤ g → g < low + n → p g ≡ q g) → filter p (range_with_len low n) ≡ filter q (range_with_len low n)
filter-same p q low zero same = refl
filter-same p q low (suc n) same =
    ap₂ (λ b gs. if b then low ∷ gs else gs) (same low (omega arith) (omega arith))
    (filter-same p q (low + 1) n (λ g le lt. same g (omega arith) (omega arith)))

-- the first `a` don't pass
filter-skip : (p : ℕ → Bool) (low a b n m : ℕ) → ((g : ℕ) → low ≤ g → g < low + a → p g ≡ false) → n ≡ a + b → m ≡ low + a →
    filter p (range_with_len low n) ≡ filter p (range_with_len m b)
filter-skip p low zero b n m none long at =
    ap₂ (λ i j. filter p (range_with_len i j)) (let here : low ≡ m = omega arith in here) (let all : n ≡ b = omega arith in all)
filter-skip p low (suc a) b n m none long at =
    ap (λ j. filter p (range_with_len low j)) (let more : n ≡ suc (a + b) = omega arith in more) ∙
    ap (λ t. if t then low ∷ filter p (range_with_len (low + 1) (a + b)) else filter p (range_with_len (low + 1) (a + b))) (none low (omega arith) (omega arith)) ∙
    filter-skip p (low + 1) a b (a + b) m (λ g le lt. none g (omega arith) (omega arith)) refl (omega arith)

filter-none : (p : ℕ → Bool) (low n : ℕ) → ((g : ℕ) → low ≤ g → g < low + n → p g ≡ false) → filter p (range_with_len low n) ≡ []
filter-none p low n none = filter-skip p low n 0 n (low + n) none (omega arith) refl

-- the first one passes
filter-take : (p : ℕ → Bool) (low n b : ℕ) → p low ≡ true → n ≡ suc b → filter p (range_with_len low n) ≡ low ∷ filter p (range_with_len (low + 1) b)
filter-take p low n b passes long =
    ap (λ j. filter p (range_with_len low j)) long ∙
    ap (λ t. if t then low ∷ filter p (range_with_len (low + 1) b) else filter p (range_with_len (low + 1) b)) passes

-- ---- the walk

-- the gaps from `start` on that are those of carets
abbrev pub shows : ℕ → List ℕ → ℕ → Bool
shows start carets gap = has carets (start + gap)

and_parts : (a b : Bool) → (a && b) ≡ true → (a ≡ true) × (b ≡ true)
and_parts true true is = (refl, refl)
and_parts true false is = absurd cc
and_parts false b is = absurd cc

within : (a b c : ℕ) → (nat_le a b && nat_lt b c) ≡ true → (a ≤ b) × (b < c)
within a b c is = (grind (arith, nat_tests), grind (arith, nat_tests))

outside : (a b c : ℕ) → (nat_le a b && nat_lt b c) ≡ false → a ≤ b → b < c → ⊥
outside a b c is le lt = grind (arith, nat_tests)

pub shown_gaps-filter : (start gaps low n upto : ℕ) (carets : List ℕ) → AreUp upto carets → low + n ≡ gaps →
    filter (shows start carets) (range_with_len low n) ≡ shown_gaps start gaps low carets
shown_gaps-filter start gaps low n upto [] up long = filter-none (shows start []) low n (λ g le lt. refl)
shown_gaps-filter start gaps low n upto (caret ∷ carets) up long =
    by (nat_le (start + low) caret && nat_lt caret (start + gaps)) refl
    (shown_gaps-filter start gaps low n caret carets up.1 long)
    (shown_gaps-filter start gaps (caret - start + 1) (low + n - (caret - start + 1)) caret carets up.1)
  where
    passed : (nat_le (start + low) caret && nat_lt caret (start + gaps)) ≡ false →
        (g : ℕ) → low ≤ g → g < low + n → shows start (caret ∷ carets) g ≡ shows start carets g
    passed is g le lt =
        or_only (caret == start + g) (has carets (start + g))
        (differ caret (start + g) (λ same. outside (start + low) caret (start + gaps) is (omega arith) (omega arith)))

    here : start + low ≤ caret → caret < start + gaps → filter (shows start carets) (range_with_len (caret - start + 1) (low + n - (caret - start + 1))) ≡ shown_gaps start gaps (caret - start + 1) carets →
        filter (shows start (caret ∷ carets)) (range_with_len low n) ≡ (caret - start) ∷ shown_gaps start gaps (caret - start + 1) carets
    here from to rest =
        filter-skip (shows start (caret ∷ carets)) low (caret - start - low) (low + n - (caret - start)) n (caret - start)
        (λ g le lt. or_none (caret == start + g) (has carets (start + g)) (differ caret (start + g) (λ same. omega arith))
        (has-below caret (start + g) carets up.1 (omega arith)))
        (omega arith) (omega arith) ∙
        filter-take (shows start (caret ∷ carets)) (caret - start) (low + n - (caret - start)) (low + n - (caret - start + 1))
        (or_first (caret == start + (caret - start)) (has carets (start + (caret - start))) (eq-eqb caret (start + (caret - start)) (omega arith)))
        (omega arith) ∙
        ap (λ gs. (caret - start) ∷ gs)
        (filter-same (shows start (caret ∷ carets)) (shows start carets) (caret - start + 1) (low + n - (caret - start + 1))
        (λ g le lt. or_only (caret == start + g) (has carets (start + g)) (differ caret (start + g) (λ same. omega arith))) ∙ rest)

    by : (b : Bool) → (nat_le (start + low) caret && nat_lt caret (start + gaps)) ≡ b →
        filter (shows start carets) (range_with_len low n) ≡ shown_gaps start gaps low carets →
        (caret - start + 1 + (low + n - (caret - start + 1)) ≡ gaps → filter (shows start carets) (range_with_len (caret - start + 1) (low + n - (caret - start + 1))) ≡ shown_gaps start gaps (caret - start + 1) carets) →
        filter (shows start (caret ∷ carets)) (range_with_len low n) ≡
        (if b then (caret - start) ∷ shown_gaps start gaps (caret - start + 1) carets else shown_gaps start gaps low carets)
    by true is skipped shown =
        let in_reach = within (start + low) caret (start + gaps) is in
        let from = in_reach.0 in let to = in_reach.1 in
        here from to (shown (omega arith))
    by false is skipped shown = filter-same (shows start (caret ∷ carets)) (shows start carets) low n (passed is) ∙ skipped

-- ---- the carets that touch

has-filter : (p : Region → Bool) (m : ℕ) → ((region : Region) → region.caret ≡ m → p region ≡ true) → (regions : List Region) →
    has (carets_of (filter p regions)) m ≡ has (carets_of regions) m
has-filter p m implies [] = refl
has-filter p m implies (region ∷ regions) = by (p region) refl (has-filter p m implies regions)
  where
    by : (b : Bool) → p region ≡ b → has (carets_of (filter p regions)) m ≡ has (carets_of regions) m →
        has (carets_of (if b then region ∷ filter p regions else filter p regions)) m ≡ (region.caret == m || has (carets_of regions) m)
    by true is rest = ap (λ b. region.caret == m || b) rest
    by false is rest =
        rest ∙ sym (or_only (region.caret == m) (has (carets_of regions) m) (differ region.caret m (λ same. let passes = implies region same in cc)))

reaches_start : (region : Region) (start m : ℕ) → region.caret ≡ m → start ≤ m → not (nat_lt (greater_end region) start) ≡ true
reaches_start region start m is le = far (greater_end region) start (omega arith)
  where
    far : (a b : ℕ) → b ≤ a → not (nat_lt a b) ≡ true
    far a b up = grind (arith, nat_tests)

reaches_end : (region : Region) (end m : ℕ) → region.caret ≡ m → m ≤ end → nat_le (lesser_end region) end ≡ true
reaches_end region end m is le = le-leb (lesser_end region) end (omega arith)

-- THE WALK OVER THE REGIONS THAT TOUCH gives the gaps of all carets
pub shown_gaps-touching : (start len end gaps : ℕ) (regions : List Region) → start + len ≡ end → gaps ≤ len + 1 → IsSelection regions →
    shown_gaps start gaps 0 (carets_of (touching_regions start end regions)) ≡ filter (shows start (carets_of regions)) (range_with_len 0 gaps)
shown_gaps-touching start len end gaps regions long few is =
    let near = filter (λ (region : Region). not (nat_lt (greater_end region) start)) regions in
    let up : AreFrom 0 (touching_regions start end regions) =
    AreFrom-filter (λ region. nat_le (lesser_end region) end) 0 near
    (AreFrom-filter (λ region. not (nat_lt (greater_end region) start)) 0 regions (AreFrom-selection regions is)) in
    sym (shown_gaps-filter start gaps 0 gaps 0 (carets_of (touching_regions start end regions)) (AreUp-carets 0 (touching_regions start end regions) up) (omega arith)) ∙
    filter-same (shows start (carets_of (touching_regions start end regions))) (shows start (carets_of regions)) 0 gaps
    (λ g le lt.
    has-filter (λ region. nat_le (lesser_end region) end) (start + g) (λ region here. reaches_end region end (start + g) here (omega arith)) near ∙
    has-filter (λ region. not (nat_lt (greater_end region) start)) (start + g) (λ region here. reaches_start region start (start + g) here (omega arith)) regions)

-- the gaps of the carets from an index on
pub carets_of-step : (i : ℕ) (regions : List Region) (d : Region) → i < length regions →
    carets_of (drop i regions) ≡ (get_or regions i d).caret ∷ carets_of (drop (i + 1) regions)
carets_of-step i regions d inside = from_suc i regions inside ∙ ap (λ n. (get_or regions i d).caret ∷ carets_of (drop n regions)) (let next : suc i ≡ i + 1 = omega arith in next)
  where
    from_suc : (i : ℕ) (regions : List Region) → i < length regions → carets_of (drop i regions) ≡ (get_or regions i d).caret ∷ carets_of (drop (suc i) regions)
    from_suc i [] inside = absurd (omega arith)
    from_suc zero (region ∷ regions) inside = refl
    from_suc (suc i) (region ∷ regions) inside = from_suc i regions (omega arith)
