use Rattle.plain_edits.proofs.callers.CollectionLemmas.{floor-after_step, collected-after_step}
use Rattle.plain_laws.proofs.history_laws.steps_give_nothing_back.Goals as goal

pub returns : goal.returns
returns c = record { floor = floor-after_step; collected = collected-after_step }
