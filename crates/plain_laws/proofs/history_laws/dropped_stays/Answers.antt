use Rattle.plain_edits.proofs.callers.StepLemmas.{dropped-after_step}
use Rattle.plain_laws.proofs.history_laws.dropped_stays.Goals as goal

pub returns : goal.returns
returns c = λ history step index sound may dropped. dropped-after_step history step sound may index dropped
