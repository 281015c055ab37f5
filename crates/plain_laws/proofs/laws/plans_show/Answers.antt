use Rattle.plain_screen.proofs.callers.PlanLemmas.{screen_after-plan_from}
use Rattle.plain_laws.proofs.laws.plans_show.Goals as goal

pub returns : goal.returns
returns c = λ window request lines screen. screen_after-plan_from window request lines 0 0 screen
