-- Lemmas on the old lines that a plan takes over: they rise.
use Rattle.std.proofs.Common.{◌≡◌, ◌⊎◌, inl, inr, ⊎_elim, ℕ, zero, suc, ◌+◌, ◌-◌, ◌<◌, ◌≤◌, nat_le, nat_lt, ◌&&◌, ◌||◌, Bool, true, false, cond, List, [], ◌∷◌, ◌++◌, map, replicate, Some, None, refl, sym, ap, subst, ◌∙◌, arith}
use Rattle.std.specs.Prelude.{Option}
use Rattle.std.specs.List.{range_with_len}
use Rattle.std.proofs.lemmas.Bool.{cases_Bool, and_parts, leb-true, ltb-true}
use Rattle.std.proofs.lemmas.List.Concat.{flat_map-cons}
use Rattle.plain_text.specs.declared.run.Run.{Run}
use Rattle.plain_screen.specs.Plan.{Standing, stays, is_restyled, is_sent, is_left, is_near, is_within, standing, taken_over}
use Rattle.subset_runs.specs.Subset.{contains}
use Rattle.line_cache.specs.Stays.{AreStaysFrom, if_true, partner_by}
use Rattle.line_cache.specs.Steps.{AreLongest, TakesFrom, lines_of, standings_in, standings_of}
use Rattle.line_cache.specs.declared.stay.Stay.{Stay}
use Rattle.line_cache.specs.declared.step.Step.{Step}
use Rattle.line_cache.specs.declared.step.Step.TheVariants.{Keep, Restyle, Send, Drop}
use Rattle.line_cache.proofs.StayLemmas.{AreStaysFrom-within}

-- ---- standings that rise

-- the old lines that these standings take over rise from this one on, and there are so many
abbrev Rises : ℕ → ℕ → List Standing → Type 0
Rises used count [] = used ≤ count
Rises used count (stays old ∷ those) = (used ≤ old) × Rises (old + 1) count those
Rises used count (is_restyled old ∷ those) = (used ≤ old) × Rises (old + 1) count those
Rises used count (is_sent ∷ those) = Rises used count those
Rises used count (is_left ∷ those) = Rises used count those

past-kept : (used count old n : ℕ) (those : List Standing) → Rises used count (map stays (range_with_len old (suc n)) ++ those) →
    (used ≤ old) × Rises (old + suc n) count those
past-kept used count old zero those rises = rises
past-kept used count old (suc n) those rises =
    let rest = past-kept (old + 1) count (old + 1) n those rises.1 in
    let same : old + 1 + suc n ≡ old + suc (suc n) = omega arith in
    (rises.0, subst (λ m. Rises m count those) same rest.1)

past-restyled : (used count old n : ℕ) (those : List Standing) → Rises used count (map is_restyled (range_with_len old (suc n)) ++ those) →
    (used ≤ old) × Rises (old + suc n) count those
past-restyled used count old zero those rises = rises
past-restyled used count old (suc n) those rises =
    let rest = past-restyled (old + 1) count (old + 1) n those rises.1 in
    let same : old + 1 + suc n ≡ old + suc (suc n) = omega arith in
    (rises.0, subst (λ m. Rises m count those) same rest.1)

past-sent : (used count n : ℕ) (those : List Standing) → Rises used count (replicate n is_sent ++ those) → Rises used count those
past-sent used count zero those rises = rises
past-sent used count (suc n) those rises = past-sent used count n those rises

past-left : (used count n : ℕ) (those : List Standing) → Rises used count (replicate n is_left ++ those) → Rises used count those
past-left used count zero those rises = rises
past-left used count (suc n) those rises = past-left used count n those rises

pub longest-first : (step : Step) (plan : List Step) → AreLongest (step ∷ plan) → 0 < lines_of step
longest-first step [] are = are
longest-first step (next ∷ plan) are = are.0

pub longest-rest : (step : Step) (plan : List Step) → AreLongest (step ∷ plan) → AreLongest plan
longest-rest step [] are = tt
longest-rest step (next ∷ plan) are = are.2

takes-from : (used count : ℕ) (plan : List Step) → AreLongest plan → Rises used count (standings_of plan) → TakesFrom used count plan
takes-from used count [] are rises = rises
takes-from used count (Keep old zero ∷ plan) are rises = let some = longest-first (Keep old zero) plan are in absurd (omega arith)
takes-from used count (Keep old (suc n) ∷ plan) are rises =
    let found = past-kept used count old n (standings_of plan) (subst (Rises used count) (flat_map-cons standings_in (Keep old (suc n)) plan) rises) in
    (found.0, takes-from (old + suc n) count plan (longest-rest (Keep old (suc n)) plan are) found.1)
takes-from used count (Restyle old zero ∷ plan) are rises = let some = longest-first (Restyle old zero) plan are in absurd (omega arith)
takes-from used count (Restyle old (suc n) ∷ plan) are rises =
    let found = past-restyled used count old n (standings_of plan) (subst (Rises used count) (flat_map-cons standings_in (Restyle old (suc n)) plan) rises) in
    (found.0, takes-from (old + suc n) count plan (longest-rest (Restyle old (suc n)) plan are) found.1)
takes-from used count (Send first n ∷ plan) are rises =
    takes-from used count plan (longest-rest (Send first n) plan are)
    (past-sent used count n (standings_of plan) (subst (Rises used count) (flat_map-cons standings_in (Send first n) plan) rises))
takes-from used count (Drop n ∷ plan) are rises =
    takes-from used count plan (longest-rest (Drop n) plan are)
    (past-left used count n (standings_of plan) (subst (Rises used count) (flat_map-cons standings_in (Drop n) plan) rises))

-- ---- partners rise

abbrev a_partner : ℕ → Bool → Option (ℕ × Bool)
a_partner old same = Some (old, same)

abbrev old_of : Option (ℕ × Bool) → ℕ
old_of None = 0
old_of (Some (old, same)) = old

-- a line has its partner in the first run, or in a later one
partner-cases : (stay : Stay) (runs : List Stay) (index old : ℕ) (same : Bool) → partner_by (stay ∷ runs) index ≡ Some (old, same) →
    ((stay.new ≤ index) × (index < stay.new + stay.n) × (stay.old + (index - stay.new) ≡ old)) ⊎ (partner_by runs index ≡ Some (old, same))
partner-cases stay runs index old same is = ⊎_elim
    (λ inside.
    let both = and_parts (nat_le stay.new index) (nat_lt index (stay.new + stay.n)) inside in
    let found : a_partner (stay.old + (index - stay.new)) stay.same ≡ a_partner old same =
    sym (ap (λ b. cond b (Some (stay.old + (index - stay.new), stay.same)) (partner_by runs index)) inside) ∙ is in
    let own : stay.old + (index - stay.new) ≡ old = ap old_of found in
    inl (leb-true stay.new index both.0, ltb-true index (stay.new + stay.n) both.1, own))
    (λ outside. inr (sym (ap (λ b. cond b (Some (stay.old + (index - stay.new), stay.same)) (partner_by runs index)) outside) ∙ is))
    (cases_Bool (nat_le stay.new index && nat_lt index (stay.new + stay.n)))

partner-bounds : (low new count total : ℕ) (runs : List Stay) (index old : ℕ) (same : Bool) → AreStaysFrom low new count total runs →
    partner_by runs index ≡ Some (old, same) → (low ≤ old) × (new ≤ index) × (old < count)
partner-bounds low new count total [] index old same are is = let broken = is in cc
partner-bounds low new count total (stay ∷ runs) index old same are is =
    let first = are.0 in
    let second = are.1 in
    let end = AreStaysFrom-within (stay.old + stay.n) (stay.new + stay.n) count total runs are.2 in
    let last = end.0 in
    ⊎_elim
    (λ (le, lt, own). (omega arith, omega arith, omega arith))
    (λ later.
    let rest = partner-bounds (stay.old + stay.n) (stay.new + stay.n) count total runs index old same are.2 later in
    let one = rest.0 in
    let two = rest.1 in
    (omega arith, omega arith, rest.2))
    (partner-cases stay runs index old same is)

pub partner-rises : (low new count total : ℕ) (runs : List Stay) (index other old next : ℕ) (same alike : Bool) → AreStaysFrom low new count total runs →
    index < other → partner_by runs index ≡ Some (old, same) → partner_by runs other ≡ Some (next, alike) → old < next
partner-rises low new count total [] index other old next same alike are lt is too = let broken = is in cc
partner-rises low new count total (stay ∷ runs) index other old next same alike are lt is too =
    by (partner-cases stay runs index old same is) (partner-cases stay runs other next alike too)
    (λ one two. partner-rises (stay.old + stay.n) (stay.new + stay.n) count total runs index other old next same alike are.2 lt one two)
  where
    by : ((stay.new ≤ index) × (index < stay.new + stay.n) × (stay.old + (index - stay.new) ≡ old)) ⊎ (partner_by runs index ≡ Some (old, same)) →
        ((stay.new ≤ other) × (other < stay.new + stay.n) × (stay.old + (other - stay.new) ≡ next)) ⊎ (partner_by runs other ≡ Some (next, alike)) →
        (partner_by runs index ≡ Some (old, same) → partner_by runs other ≡ Some (next, alike) → old < next) → old < next
    by (inl (a, b, own)) (inl (d, e, its)) again = omega arith
    by (inl (a, b, own)) (inr later) again =
        let rest = (partner-bounds (stay.old + stay.n) (stay.new + stay.n) count total runs other next alike are.2 later).0 in omega arith
    by (inr later) (inl (d, e, its)) again =
        let rest = (partner-bounds (stay.old + stay.n) (stay.new + stay.n) count total runs index old same are.2 later).1 in absurd (omega arith)
    by (inr one) (inr two) again = again one two

-- ---- the standings of a layout rise

rise-step : (how : Standing) (used count : ℕ) (those : List Standing) → (taken_over how ≡ None → Rises used count those) →
    ((old : ℕ) → taken_over how ≡ Some old → (used ≤ old) × Rises (old + 1) count those) → Rises used count (how ∷ those)
rise-step (stays old) used count those none some = some old refl
rise-step (is_restyled old) used count those none some = some old refl
rise-step is_sent used count those none some = none refl
rise-step is_left used count those none some = none refl

sent-takes : (b : Bool) (old : ℕ) → taken_over (cond b is_sent is_left) ≡ Some old → ⊥
sent-takes true old is = let broken = is in cc
sent-takes false old is = let broken = is in cc

-- what is taken over is a partner
takes-partner : (window request : Run) (index : ℕ) (partner : Option (ℕ × Bool)) (old : ℕ) → taken_over (standing window request index partner) ≡ Some old →
    (same : Bool) × (partner ≡ Some (old, same))
takes-partner window request index None old is = absurd (sent-takes (is_within window index || is_within request index) old is)
takes-partner window request index (Some (from, true)) old is = by (is_near window index || is_within request index) is
  where
    by : (b : Bool) → taken_over (cond b (stays from) (cond (is_within window index || is_within request index) is_sent is_left)) ≡ Some old →
        (same : Bool) × (a_partner from true ≡ a_partner old same)
    by true found = let own : from ≡ old = cc in (true, ap (λ o. a_partner o true) own)
    by false found = absurd (sent-takes (is_within window index || is_within request index) old found)
takes-partner window request index (Some (from, false)) old is = by (is_within window index || is_within request index) is
  where
    by : (b : Bool) → taken_over (cond b (is_restyled from) (cond (is_within window index || is_within request index) is_sent is_left)) ≡ Some old →
        (same : Bool) × (a_partner from false ≡ a_partner old same)
    by true found = let own : from ≡ old = cc in (false, ap (λ o. a_partner o false) own)
    by false found = absurd (sent-takes (is_within window index || is_within request index) old found)

valid-partner : (truths : List Bool) (partner : Option (ℕ × Bool)) (old : ℕ) (same : Bool) → if_true truths partner ≡ Some (old, same) →
    partner ≡ Some (old, same)
valid-partner truths None old same is = let broken = is in cc
valid-partner truths (Some (from, alike)) old same is = by (contains truths from) is
  where
    by : (b : Bool) → cond b (a_partner from alike) None ≡ a_partner old same → a_partner from alike ≡ a_partner old same
    by true found = found
    by false found = let broken = found in cc

module _ (window request : Run) (truths : List Bool) (count total : ℕ) (runs : List Stay) (are : AreStaysFrom 0 0 count total runs) where
  abbrev stands : ℕ → Standing
  stands index = standing window request index (if_true truths (partner_by runs index))

  -- from an index on no partner is below this one
  abbrev IsBelow : ℕ → ℕ → Type 0
  IsBelow used index = (other old : ℕ) (same : Bool) → index ≤ other → partner_by runs other ≡ Some (old, same) → used ≤ old

  stands-rise : (used index n : ℕ) → used ≤ count → IsBelow used index → Rises used count (map stands (range_with_len index n))
  stands-rise used index zero within below = within
  stands-rise used index (suc n) within below =
      rise-step (stands index) used count (map stands (range_with_len (index + 1) n))
      (λ none. stands-rise used (index + 1) n within (λ other old same le is. below other old same (omega arith) is))
      (λ old taken.
      let found = takes-partner window request index (if_true truths (partner_by runs index)) old taken in
      let own = valid-partner truths (partner_by runs index) old found.0 found.1 in
      let last = (partner-bounds 0 0 count total runs index old found.0 are own).2 in (
        below index old found.0 (omega arith) own,
        stands-rise (old + 1) (index + 1) n (omega arith)
            (λ other next alike le is. let lt = partner-rises 0 0 count total runs index other old next found.0 alike are (omega arith) own is in omega arith),
      ))

  pub plan-takes : (plan : List Step) (n : ℕ) → AreLongest plan → standings_of plan ≡ map stands (range_with_len 0 n) → TakesFrom 0 count plan
  plan-takes plan n longest is =
      takes-from 0 count plan longest
      (subst (Rises 0 count) (sym is) (stands-rise 0 0 n (omega arith) (λ other old same le found. omega arith)))
