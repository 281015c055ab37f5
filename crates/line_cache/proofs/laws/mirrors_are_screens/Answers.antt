use Rattle.plain_screen.specs.Plan.{planned_screen}
use Rattle.plain_screen.proofs.callers.PlanLemmas.{screen_after-update_plan}
use Rattle.line_cache.proofs.LawLemmas.{valid-plan}
use Rattle.line_cache.proofs.laws.mirrors_are_screens.Goals as goal

pub returns : goal.returns
returns c = record {
  after = λ screen window request number lines partners plan same are numbered says. (
    planned_screen window request lines partners,
    screen_after-update_plan screen window request number lines partners are numbered,
    valid-plan window request partners lines plan same says,
  );
}
