-- Laws that tie runs to lists.
use Rattle.std.specs.Prelude.{◌≡◌, ℕ, ◌+◌, ◌-◌, ◌*◌, ◌≤◌, Bool, true, ◌||◌, List, length, Option, Some}
use Rattle.std.specs.List.{zip}
use Rattle.plain_text.specs.declared.run.Run.{Run}
use Rattle.plain_screen.specs.declared.screen.Line.{Line}
use Rattle.plain_screen.specs.Plan.{with_standings, joined_ops, ops_for, update_plan, is_near, is_within, margin, ArePartners, AreNumberedFrom}
use Rattle.plain_screen.specs.Screen.{Screen, screen_after}
use Rattle.plain_screen.specs.Touched.{valid_partners}
use Rattle.subset_runs.specs.Subset.{contains}
use Rattle.line_cache.specs.Mirror.{valid_lines}
use Rattle.line_cache.specs.Runs.{run_count}
use Rattle.line_cache.specs.Standings.{standings}
use Rattle.line_cache.specs.Stays.{valid_by}
use Rattle.line_cache.specs.Ops.{lines_at, numbers_at, ops_by}
use Rattle.line_cache.specs.Steps.{AreLongest, ArePlacedFrom, TakesFrom, lines_in, standings_of, shown_by}
use Rattle.line_cache.specs.declared.step.Step.{Step}

-- how lines stand needs no lines: the rule gives each line its standing, and an update says what these standings say
pub record StandingsNeedNoLines : Type 0 where
  pub apart : (window request : Run) (index : ℕ) (partners : List (Option (ℕ × Bool))) (lines : List Line) → length partners ≡ length lines →
      with_standings window request index partners lines ≡ zip (standings window request index partners) lines
  pub update : (window request : Run) (partners : List (Option (ℕ × Bool))) (lines : List Line) → length partners ≡ length lines →
      update_plan window request lines partners ≡ joined_ops (ops_for 0 (zip (standings window request 0 partners) lines))

-- after an update a front end's screen has the lines that the plan shows: where partners are partners, and lines are numbered as a
-- layout's are, the operations of the standings that the plan says make of the screen one on which these lines are valid, and no others
pub record MirrorsAreScreens : Type 0 where
  pub after : (screen : Screen) (window request : Run) (number : ℕ) (lines : List Line) (partners : List (Option (ℕ × Bool))) (plan : List Step) →
      length partners ≡ length lines → ArePartners screen 0 partners lines → AreNumberedFrom number lines →
      standings_of plan ≡ standings window request 0 partners →
      (shown : Screen) × (screen_after screen (update_plan window request lines partners) ≡ Some shown) × (valid_lines shown ≡ shown_by plan)

-- only lines near the window, or requested, are valid after an update; so a mirror never has more runs than there are such lines, however
-- long a session is
pub record MirrorsStayNear : Type 0 where
  pub near : (window request : Run) (partners : List (Option (ℕ × Bool))) (plan : List Step) →
      standings_of plan ≡ standings window request 0 partners →
      (index : ℕ) → contains (shown_by plan) index ≡ true → (is_near window index || is_within request index) ≡ true
  pub few : (window request : Run) (partners : List (Option (ℕ × Bool))) (plan : List Step) →
      standings_of plan ≡ standings window request 0 partners →
      run_count (shown_by plan) ≤ (window.end - window.start) + 2 * margin + (request.end - request.start)

-- the operations of an update go by the steps of its plan: of the lines that are sent or restyled, and one number for each step that takes
-- old lines over, they are those that the rule makes line by line
pub record OperationsGoBySteps : Type 0 where
  pub same : (count : ℕ) (plan : List Step) (lines : List Line) → AreLongest plan → ArePlacedFrom 0 plan → TakesFrom 0 count plan →
      length lines ≡ lines_in plan → ops_by 0 plan (numbers_at plan lines) (lines_at plan lines) ≡ joined_ops (ops_for 0 (zip (standings_of plan) lines))

-- of partners those are valid by the truths of a screen that are valid on it
abbrev pub PartnersAreOfScreens : Type 0
PartnersAreOfScreens = (screen : Screen) (partners : List (Option (ℕ × Bool))) →
    valid_by (valid_lines screen) partners ≡ valid_partners screen partners
