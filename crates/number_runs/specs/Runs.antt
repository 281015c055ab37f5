-- Sets of numbers as runs. A run has its start, its end and all numbers between them.
use Rattle.std.specs.Prelude.{ℕ, ◌+◌, ◌-◌, ◌≤◌, Bool, ◌&&◌, List, [], ◌∷◌, nat_le}
use Rattle.std.specs.List.{flat_map, list_any, range_with_len}
use Rattle.number_runs.specs.declared.run.NumberRun.{NumberRun}

-- the numbers of a run
abbrev pub numbers_of : NumberRun → List ℕ
numbers_of run = range_with_len run.start (run.end + 1 - run.start)

-- the numbers of all of them
abbrev pub numbers_in : List NumberRun → List ℕ
numbers_in runs = flat_map numbers_of runs

-- whether the run has the number
abbrev pub is_in : ℕ → NumberRun → Bool
is_in n run = nat_le run.start n && nat_le n run.end

-- whether one of the runs has it
abbrev pub is_in_some : List NumberRun → ℕ → Bool
is_in_some runs n = list_any (is_in n) runs

-- the runs begin at `low` or later, ascend, are not empty, and no two touch
abbrev pub AreSeparate : ℕ → List NumberRun → Type 0
AreSeparate low [] = Unit {0}
AreSeparate low (run ∷ runs) = (low ≤ run.start) × (run.start ≤ run.end) × AreSeparate (run.end + 2) runs

-- where the last run starts, or else this
abbrev pub last_start : ℕ → List NumberRun → ℕ
last_start from [] = from
last_start from (run ∷ runs) = last_start run.start runs
