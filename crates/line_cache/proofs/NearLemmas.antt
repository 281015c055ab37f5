-- Lemmas on what a front end has after an update: lines near the window, or requested.
use Rattle.std.proofs.Common.{◌≡◌, ◌⊎◌, inl, inr, ⊎_elim, ℕ, zero, suc, ◌+◌, ◌-◌, ◌*◌, ◌<◌, ◌≤◌, nat_le, nat_lt, ◌&&◌, ◌||◌, Bool, true, false, List, [], ◌∷◌, map, Some, None, refl, sym, ap, ap₂, ◌∙◌, arith}
use Rattle.std.specs.Prelude.{Option}
use Rattle.std.proofs.lemmas.Bool.{and_parts, le-leb, leb-true, lt-ltb, ltb-true}
use Rattle.plain_text.specs.declared.run.Run.{Run}
use Rattle.plain_screen.specs.Plan.{is_near, is_within, margin, standing}
use Rattle.subset_runs.specs.Subset.{contains, count}
use Rattle.line_cache.specs.Runs.{runs_after, run_count}
use Rattle.line_cache.specs.Standings.{standings}
use Rattle.line_cache.specs.Steps.{shown_by, standings_of}
use Rattle.line_cache.specs.declared.step.Step.{Step}
use Rattle.line_cache.proofs.LawLemmas.{is_there, there-plan}
use Rattle.line_cache.proofs.PlanLemmas.{stand_by, stand-is}

abbrev near_or_asked : Run → Run → ℕ → Bool
near_or_asked window request index = is_near window index || is_within request index

-- ---- each line that is there

within-near : (run : Run) (index : ℕ) → is_within run index ≡ true → is_near run index ≡ true
within-near run index is =
    let both = and_parts (nat_le run.start index) (nat_lt index run.end) is in
    ap₂ (λ a b. a && b) (le-leb run.start (index + 1000) (omega (arith, leb-true run.start index both.0)))
    (lt-ltb index (run.end + 1000) (omega (arith, ltb-true index run.end both.1)))

there-by : (near within asked : Bool) (partner : Option (ℕ × Bool)) → (within ≡ true → near ≡ true) →
    is_there (stand_by near within asked partner) ≡ true → (near || asked) ≡ true
unfolding is_there stand_by
there-by true within asked partner on is = refl
there-by false within true partner on is = refl
there-by false true false partner on is = on refl
there-by false false false None on is = is
there-by false false false (Some (old, true)) on is = is
there-by false false false (Some (old, false)) on is = is

there-near : (window request : Run) (index : ℕ) (partner : Option (ℕ × Bool)) → is_there (standing window request index partner) ≡ true →
    near_or_asked window request index ≡ true
there-near window request index partner is =
    there-by (is_near window index) (is_within window index) (is_within request index) partner (within-near window index)
    (sym (ap is_there (stand-is window request index partner)) ∙ is)

listed-near : (window request : Run) (at : ℕ) (partners : List (Option (ℕ × Bool))) (k : ℕ) →
    contains (map is_there (standings window request at partners)) k ≡ true → near_or_asked window request (at + k) ≡ true
listed-near window request at [] k is = let broken = is in cc
listed-near window request at (partner ∷ partners) zero is =
    let here : at + 0 ≡ at = omega arith in ap (near_or_asked window request) here ∙ there-near window request at partner is
listed-near window request at (partner ∷ partners) (suc k) is =
    let on : at + suc k ≡ at + 1 + k = omega arith in
    ap (near_or_asked window request) on ∙ listed-near window request (at + 1) partners k is

pub shown-near : (window request : Run) (partners : List (Option (ℕ × Bool))) (plan : List Step) → standings_of plan ≡ standings window request 0 partners →
    (index : ℕ) → contains (shown_by plan) index ≡ true → near_or_asked window request index ≡ true
shown-near window request partners plan says index is =
    let here : index ≡ 0 + index = omega arith in
    ap (near_or_asked window request) here ∙
    listed-near window request 0 partners index
    (ap (λ truths. contains truths index) (sym (ap (map is_there) says) ∙ there-plan plan) ∙ is)

-- ---- how many runs they are

runs-count : (before : Bool) (truths : List Bool) → runs_after before truths ≤ count truths
runs-count before [] = omega arith
runs-count true (true ∷ truths) = let rest = runs-count true truths in omega (arith, rest)
runs-count false (true ∷ truths) = let rest = runs-count true truths in omega (arith, rest)
runs-count before (false ∷ truths) = let rest = runs-count false truths in omega (arith, rest)

-- the lines of a run that do not stand before one
abbrev left_of : ℕ → ℕ → ℕ → ℕ
left_of low high at = (high - low) - (at - low)

either : (x y : Bool) → (x || y) ≡ true → (x ≡ true) ⊎ (y ≡ true)
either true y is = inl refl
either false y is = inr is

near-bounds : (run : Run) (index : ℕ) → is_near run index ≡ true → (run.start ≤ index + 1000) × (index < run.end + 1000)
near-bounds run index is =
    let both = and_parts (nat_le run.start (index + 1000)) (nat_lt index (run.end + 1000)) is in
    (leb-true run.start (index + 1000) both.0, ltb-true index (run.end + 1000) both.1)

within-bounds : (run : Run) (index : ℕ) → is_within run index ≡ true → (run.start ≤ index) × (index < run.end)
within-bounds run index is =
    let both = and_parts (nat_le run.start index) (nat_lt index run.end) is in (leb-true run.start index both.0, ltb-true index run.end both.1)

left-less : (low high at : ℕ) → left_of low high (at + 1) ≤ left_of low high at
left-less low high at = omega arith

left-one : (low high at : ℕ) → low ≤ at → at < high → left_of low high (at + 1) + 1 ≤ left_of low high at
left-one low high at from to = omega (arith, from, to)

count-near : (window request : Run) (at : ℕ) (truths : List Bool) →
    ((k : ℕ) → contains truths k ≡ true → near_or_asked window request (at + k) ≡ true) →
    count truths ≤ left_of (window.start - 1000) (window.end + 1000) at + left_of request.start request.end at
count-near window request at [] near = omega arith
count-near window request at (flag ∷ truths) near =
    let on : (k : ℕ) → contains truths k ≡ true → near_or_asked window request (at + 1 + k) ≡ true =
    λ k is. let same : at + 1 + k ≡ at + suc k = omega arith in ap (near_or_asked window request) same ∙ near (suc k) is in
    let rest = count-near window request (at + 1) truths on in
    let less = left-less (window.start - 1000) (window.end + 1000) at in
    let fewer = left-less request.start request.end at in
    by flag (λ is. let here : at ≡ at + 0 = omega arith in ap (near_or_asked window request) here ∙ near 0 is) rest less fewer
  where
    by : (flag : Bool) → (flag ≡ true → near_or_asked window request at ≡ true) →
        count truths ≤ left_of (window.start - 1000) (window.end + 1000) (at + 1) + left_of request.start request.end (at + 1) →
        left_of (window.start - 1000) (window.end + 1000) (at + 1) ≤ left_of (window.start - 1000) (window.end + 1000) at →
        left_of request.start request.end (at + 1) ≤ left_of request.start request.end at →
        count (flag ∷ truths) ≤ left_of (window.start - 1000) (window.end + 1000) at + left_of request.start request.end at
    by false own rest less fewer = omega (arith, rest, less, fewer)
    by true own rest less fewer = ⊎_elim
        (λ is.
        let bounds = near-bounds window at is in
        let low : window.start - 1000 ≤ at = omega (arith, bounds.0) in
        let one = left-one (window.start - 1000) (window.end + 1000) at low bounds.1 in omega (arith, rest, fewer, one))
        (λ is.
        let bounds = within-bounds request at is in
        let one = left-one request.start request.end at bounds.0 bounds.1 in omega (arith, rest, less, one))
        (either (is_near window at) (is_within request at) (own refl))

pub near-few : (window request : Run) (partners : List (Option (ℕ × Bool))) (plan : List Step) → standings_of plan ≡ standings window request 0 partners →
    run_count (shown_by plan) ≤ (window.end - window.start) + 2 * margin + (request.end - request.start)
near-few window request partners plan says =
    let near : (k : ℕ) → contains (shown_by plan) k ≡ true → near_or_asked window request (0 + k) ≡ true =
    λ k is. let here : 0 + k ≡ k = omega arith in ap (near_or_asked window request) here ∙ shown-near window request partners plan says k is in
    let most = count-near window request 0 (shown_by plan) near in
    let runs = runs-count false (shown_by plan) in
    omega (arith, most, runs)
