-- Lemmas on lines and numbers that are told, step by step.
use Rattle.std.proofs.Common.{◌≡◌, ℕ, zero, suc, ◌+◌, ◌-◌, ◌<◌, ◌≤◌, ◌^◌, List, [], ◌∷◌, ◌++◌, take, drop, refl, sym, ap, ap₂, ◌∙◌, arith, append_assoc}
use Rattle.std.specs.Prelude.{Option}
use Rattle.plain_screen.specs.declared.screen.Line.{Line}
use Rattle.plain_screen.specs.declared.screen.Op.{Op}
use Rattle.plain_screen.specs.Plan.{skip_for}
use Rattle.line_cache.specs.OneStep.{numbers_of, old_of, op_of, told_of, used_past}
use Rattle.line_cache.specs.Ops.{first_of, ops_by}
use Rattle.line_cache.specs.Steps.{TakesFrom}
use Rattle.line_cache.specs.declared.step.Step.{Step}
use Rattle.line_cache.specs.declared.step.Step.TheVariants.{Keep, Restyle, Send, Drop}

-- ---- lines one by one

pub taken_step : (made next all before later : List Line) (line : Line) (left : ℕ) → 0 < left → before ≡ line ∷ later → next ≡ made ++ line ∷ [] →
    made ++ take left before ≡ all → next ++ take (left - 1) later ≡ all
taken_step made next all before later line zero some is pushed so_far = absurd (omega (arith, some))
taken_step made next all before later line (suc left) some is pushed so_far =
    let less : suc left - 1 ≡ left = omega arith in
    ap₂ (λ m xs. xs ++ take m later) less pushed ∙ append_assoc made (line ∷ []) (take left later) ∙
    ap (λ xs. made ++ take (suc left) xs) (sym is) ∙ so_far

pub dropped_step : (all before later : List Line) (line : Line) (left : ℕ) → 0 < left → before ≡ line ∷ later → drop left before ≡ all →
    drop (left - 1) later ≡ all
dropped_step all before later line zero some is so_far = absurd (omega (arith, some))
dropped_step all before later line (suc left) some is so_far =
    let less : suc left - 1 ≡ left = omega arith in ap (λ m. drop m later) less ∙ ap (drop (suc left)) (sym is) ∙ so_far

-- ---- steps one by one

ops_by-step : (used : ℕ) (step : Step) (plan : List Step) (numbers : List (Option ℕ)) (lines : List Line) →
    ops_by used (step ∷ plan) numbers lines
    ≡ skip_for used (old_of step) ++ (op_of step (first_of numbers) lines ∷ ops_by (used_past used step) plan (drop (numbers_of step) numbers) (drop (told_of step) lines))
ops_by-step used (Keep old n) plan numbers lines = refl
ops_by-step used (Restyle old n) plan numbers lines = refl
ops_by-step used (Send first n) plan numbers lines = refl
ops_by-step used (Drop n) plan numbers lines = refl

pub ops_step : (ops next all : List Op) (used after : ℕ) (step : Step) (plan : List Step) (numbers more : List (Option ℕ)) (lines later : List Line) (op : Op) →
    op ≡ op_of step (first_of numbers) lines → next ≡ ops ++ (skip_for used (old_of step) ++ op ∷ []) → after ≡ used_past used step →
    more ≡ drop (numbers_of step) numbers → later ≡ drop (told_of step) lines → ops ++ ops_by used (step ∷ plan) numbers lines ≡ all →
    next ++ ops_by after plan more later ≡ all
ops_step ops next all used after step plan numbers more lines later op is put past left told so_far =
    let skips = skip_for used (old_of step) in
    let behind = ops_by (used_past used step) plan (drop (numbers_of step) numbers) (drop (told_of step) lines) in
    let same : ops_by after plan more later ≡ behind =
    ap (λ a. ops_by a plan more later) past ∙ ap₂ (λ ns ls. ops_by (used_past used step) plan ns ls) left told in
    ap₂ (λ xs ys. xs ++ ys) put same ∙ append_assoc ops (skips ++ op ∷ []) behind ∙ ap (λ xs. ops ++ xs) (append_assoc skips (op ∷ []) behind) ∙
    ap (λ o. ops ++ (skips ++ (o ∷ behind))) is ∙ ap (λ xs. ops ++ xs) (sym (ops_by-step used step plan numbers lines)) ∙ so_far

-- old lines that rise go on rising, and all of them can be counted
TakesFrom-low : (used count : ℕ) (plan : List Step) → TakesFrom used count plan → used ≤ count
TakesFrom-low used count [] takes = takes
TakesFrom-low used count (Keep old n ∷ plan) takes = let rest = TakesFrom-low (old + n) count plan takes.1 in let le = takes.0 in omega (arith, rest, le)
TakesFrom-low used count (Restyle old n ∷ plan) takes = let rest = TakesFrom-low (old + n) count plan takes.1 in let le = takes.0 in omega (arith, rest, le)
TakesFrom-low used count (Send first n ∷ plan) takes = TakesFrom-low used count plan takes
TakesFrom-low used count (Drop n ∷ plan) takes = TakesFrom-low used count plan takes

pub takes_step : (used count : ℕ) (step : Step) (plan : List Step) → TakesFrom used count (step ∷ plan) → TakesFrom (used_past used step) count plan
takes_step used count (Keep old n) plan takes = takes.1
takes_step used count (Restyle old n) plan takes = takes.1
takes_step used count (Send first n) plan takes = takes
takes_step used count (Drop n) plan takes = takes

pub used_fits : (used count : ℕ) (step : Step) (plan : List Step) → count < 2 ^ 64 → TakesFrom used count (step ∷ plan) → used_past used step < 2 ^ 64
used_fits used count step plan bound takes =
    let low = TakesFrom-low (used_past used step) count plan (takes_step used count step plan takes) in omega (arith, low, bound)
