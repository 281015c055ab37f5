use Rattle.plain_edits.proofs.callers.CaretLemmas.{moved_caret-after_step}
use Rattle.plain_laws.proofs.history_laws.carets_follow_changes.Goals as goal

pub returns : goal.returns
returns c = moved_caret-after_step
