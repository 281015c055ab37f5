-- Runs of valid lines: how many there are, which is the next one, and whether a run has no others.
use Rattle.std.specs.Prelude.{◌≡◌, ℕ, ◌+◌, ◌<◌, ◌≤◌, Bool, true, false, not, ◌||◌, if◌then◌else◌, List, [], ◌∷◌, length}
use Rattle.std.specs.List.{list_all, range_with_len}
use Rattle.plain_text.specs.declared.run.Run.{Run}
use Rattle.plain_screen.specs.Plan.{is_within}
use Rattle.subset_runs.specs.Subset.{contains}

-- how many begin behind a line, by whether that one is valid
abbrev pub runs_after : Bool → List Bool → ℕ
runs_after before [] = 0
runs_after before (true ∷ truths) = (if before then 0 else 1) + runs_after true truths
runs_after before (false ∷ truths) = runs_after false truths

-- HOW MANY RUNS of valid lines a screen has
abbrev pub run_count : List Bool → ℕ
run_count truths = runs_after false truths

-- the run has the first valid lines from a line on: the lines before it are not valid, each of its own is, and the one behind it is not
pub record IsNextRun (truths : List Bool) (from : ℕ) (run : Run) : Type 0 where
  pub some : run.start < run.end
  pub from_there : from ≤ run.start
  pub inside : run.end ≤ length truths
  pub before : (index : ℕ) → from ≤ index → index < run.start → contains truths index ≡ false
  pub valid : (index : ℕ) → run.start ≤ index → index < run.end → contains truths index ≡ true
  pub behind : contains truths run.end ≡ false

-- WHETHER EACH LINE OF A RUN IS VALID, of as many as the screen has
abbrev pub has_all : List Bool → Run → Bool
has_all truths run = list_all (λ index. not (is_within run index) || contains truths index) (range_with_len 0 (length truths))
