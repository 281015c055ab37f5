-- A plan of an update as runs of lines, and what they mean.
use Rattle.std.specs.Prelude.{◌≡◌, ℕ, ◌+◌, ◌≤◌, ◌<◌, Bool, true, false, ◌==◌, if◌then◌else◌, List, [], ◌∷◌, map, replicate, Option, None, Some, ⊤}
use Rattle.std.specs.List.{flat_map, range_with_len, sum_by}
use Rattle.plain_screen.specs.Plan.{Standing, stays, is_restyled, is_sent, is_left}
use Rattle.line_cache.specs.declared.step.Step.{Step}
use Rattle.line_cache.specs.declared.step.Step.TheVariants.{Keep, Restyle, Send, Drop}

-- how many lines a step makes
abbrev pub lines_of : Step → ℕ
lines_of (Keep old n) = n
lines_of (Restyle old n) = n
lines_of (Send first n) = n
lines_of (Drop n) = n

abbrev pub lines_in : List Step → ℕ
lines_in plan = sum_by lines_of plan

-- the standings of its lines
abbrev pub standings_in : Step → List Standing
standings_in (Keep old n) = map stays (range_with_len old n)
standings_in (Restyle old n) = map is_restyled (range_with_len old n)
standings_in (Send first n) = replicate n is_sent
standings_in (Drop n) = replicate n is_left

-- THE STANDINGS THAT A PLAN SAYS
abbrev pub standings_of : List Step → List Standing
standings_of plan = flat_map standings_in plan

-- whether its lines are valid after the plan
abbrev pub is_shown : Step → Bool
is_shown (Keep old n) = true
is_shown (Restyle old n) = true
is_shown (Send first n) = true
is_shown (Drop n) = false

-- THE SCREEN AFTER A PLAN: which of its lines are valid
abbrev pub shown_by : List Step → List Bool
shown_by plan = flat_map (λ step. replicate (lines_of step) (is_shown step)) plan

-- two neighbours as one step, where they could be one
abbrev pub if_next : Bool → Step → Option Step
if_next b step = if b then Some step else None

abbrev pub joined_steps : Step → Step → Option Step
joined_steps (Keep old n) (Keep next more) = if_next (old + n == next) (Keep old (n + more))
joined_steps (Restyle old n) (Restyle next more) = if_next (old + n == next) (Restyle old (n + more))
joined_steps (Send first n) (Send next more) = if_next (first + n == next) (Send first (n + more))
joined_steps (Drop n) (Drop more) = Some (Drop (n + more))
joined_steps step next = None

-- each step has lines, and no two neighbours could be one
abbrev pub AreLongest : List Step → Type 0
AreLongest [] = ⊤
AreLongest (step ∷ []) = 0 < lines_of step
AreLongest (step ∷ next ∷ plan) = (0 < lines_of step) × (joined_steps step next ≡ None) × AreLongest (next ∷ plan)

-- where the step sends lines, it tells this index as that of the first
abbrev pub IsPlacedAt : ℕ → Step → Type 0
IsPlacedAt index (Send first n) = first ≡ index
IsPlacedAt index step = ⊤

-- the lines that are sent are told by their indexes; the first of the plan's lines has this one
abbrev pub ArePlacedFrom : ℕ → List Step → Type 0
ArePlacedFrom index [] = ⊤
ArePlacedFrom index (step ∷ plan) = IsPlacedAt index step × ArePlacedFrom (index + lines_of step) plan

-- the old lines that are taken over rise, from this one on, and are disjoint; there are so many
abbrev pub TakesFrom : ℕ → ℕ → List Step → Type 0
TakesFrom used count [] = used ≤ count
TakesFrom used count (Keep old n ∷ plan) = (used ≤ old) × TakesFrom (old + n) count plan
TakesFrom used count (Restyle old n ∷ plan) = (used ≤ old) × TakesFrom (old + n) count plan
TakesFrom used count (Send first n ∷ plan) = TakesFrom used count plan
TakesFrom used count (Drop n ∷ plan) = TakesFrom used count plan
