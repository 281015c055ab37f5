use Rattle.plain_screen.proofs.callers.PlanLemmas.{screen_after-update_plan}
use Rattle.plain_laws.proofs.view_laws.plans_keep.Goals as goal

pub returns : goal.returns
returns c = screen_after-update_plan
