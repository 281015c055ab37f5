-- The operations of an update, by the steps of a plan.
use Rattle.std.specs.Prelude.{ℕ, ◌+◌, List, [], ◌∷◌, ◌++◌, map, take, drop, Option, None, Some}
use Rattle.plain_screen.specs.declared.screen.Line.{Line}
use Rattle.plain_screen.specs.declared.screen.Op.{Op}
use Rattle.plain_screen.specs.declared.screen.Op.TheVariants.{Copy, Invalidate, Ins, Update}
use Rattle.plain_screen.specs.Plan.{or_number, restyle_of, skip_for}
use Rattle.line_cache.specs.declared.step.Step.{Step}
use Rattle.line_cache.specs.declared.step.Step.TheVariants.{Keep, Restyle, Send, Drop}

-- the number of the first of some lines that has one
abbrev pub first_number : List Line → Option ℕ
first_number [] = None
first_number (line ∷ lines) = or_number line.ln (first_number lines)

-- the lines of a layout that are sent or restyled, in order
abbrev pub lines_at : List Step → List Line → List Line
lines_at [] lines = []
lines_at (Keep old n ∷ plan) lines = lines_at plan (drop n lines)
lines_at (Restyle old n ∷ plan) lines = take n lines ++ lines_at plan (drop n lines)
lines_at (Send first n ∷ plan) lines = take n lines ++ lines_at plan (drop n lines)
lines_at (Drop n ∷ plan) lines = lines_at plan (drop n lines)

-- for each step that takes old lines over the number of the first of its lines that has one
abbrev pub numbers_at : List Step → List Line → List (Option ℕ)
numbers_at [] lines = []
numbers_at (Keep old n ∷ plan) lines = first_number (take n lines) ∷ numbers_at plan (drop n lines)
numbers_at (Restyle old n ∷ plan) lines = first_number (take n lines) ∷ numbers_at plan (drop n lines)
numbers_at (Send first n ∷ plan) lines = numbers_at plan (drop n lines)
numbers_at (Drop n ∷ plan) lines = numbers_at plan (drop n lines)

-- the first of some numbers
abbrev pub first_of : List (Option ℕ) → Option ℕ
first_of [] = None
first_of (number ∷ numbers) = number

-- THE OPERATIONS OF A PLAN, one for each step, with a skip before it where old lines are passed over: of the lines that are told, and the
-- numbers, each step takes its own; the old lines before `used` are done with
abbrev pub ops_by : ℕ → List Step → List (Option ℕ) → List Line → List Op
ops_by used [] numbers lines = []
ops_by used (Keep old n ∷ plan) numbers lines =
    skip_for used (Some old) ++ (Copy n (first_of numbers) ∷ ops_by (old + n) plan (drop 1 numbers) lines)
ops_by used (Restyle old n ∷ plan) numbers lines =
    skip_for used (Some old) ++ (Update (first_of numbers) (map restyle_of (take n lines)) ∷ ops_by (old + n) plan (drop 1 numbers) (drop n lines))
ops_by used (Send first n ∷ plan) numbers lines = Ins (take n lines) ∷ ops_by used plan numbers (drop n lines)
ops_by used (Drop n ∷ plan) numbers lines = Invalidate n ∷ ops_by used plan numbers lines
