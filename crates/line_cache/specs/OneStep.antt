-- What one step of a plan has of its operations.
use Rattle.std.specs.Prelude.{ℕ, ◌+◌, ◌<◌, ◌^◌, List, map, take, Option, None, Some}
use Rattle.plain_screen.specs.declared.screen.Line.{Line}
use Rattle.plain_screen.specs.declared.screen.Op.{Op}
use Rattle.plain_screen.specs.declared.screen.Op.TheVariants.{Copy, Invalidate, Ins, Update}
use Rattle.plain_screen.specs.Plan.{restyle_of}
use Rattle.line_cache.specs.Steps.{TakesFrom}
use Rattle.line_cache.specs.declared.step.Step.{Step}
use Rattle.line_cache.specs.declared.step.Step.TheVariants.{Keep, Restyle, Send, Drop}

-- the old lines that a plan takes over rise and are disjoint, among as many as the machine can count
abbrev pub TakesOldLines : List Step → Type 0
TakesOldLines plan = (count : ℕ) × (count < 2 ^ 64) × TakesFrom 0 count plan

-- the first old line that it takes over, if any
abbrev pub old_of : Step → Option ℕ
old_of (Keep old n) = Some old
old_of (Restyle old n) = Some old
old_of (Send first n) = None
old_of (Drop n) = None

-- where the old lines before `used` are done with: those that are done with after it
abbrev pub used_past : ℕ → Step → ℕ
used_past used (Keep old n) = old + n
used_past used (Restyle old n) = old + n
used_past used (Send first n) = used
used_past used (Drop n) = used

-- how many numbers it takes
abbrev pub numbers_of : Step → ℕ
numbers_of (Keep old n) = 1
numbers_of (Restyle old n) = 1
numbers_of (Send first n) = 0
numbers_of (Drop n) = 0

-- how many lines are told of it
abbrev pub told_of : Step → ℕ
told_of (Keep old n) = 0
told_of (Restyle old n) = n
told_of (Send first n) = n
told_of (Drop n) = 0

-- its operation, with this number, of the lines that are told
abbrev pub op_of : Step → Option ℕ → List Line → Op
op_of (Keep old n) number lines = Copy n number
op_of (Restyle old n) number lines = Update number (map restyle_of (take n lines))
op_of (Send first n) number lines = Ins (take n lines)
op_of (Drop n) number lines = Invalidate n
