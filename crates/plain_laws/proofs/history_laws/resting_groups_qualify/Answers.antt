use Rattle.plain_edits.proofs.callers.WellFormedLemmas.{resting_groups_iff}
use Rattle.plain_laws.proofs.history_laws.resting_groups_qualify.Goals as goal

pub returns : goal.returns
returns c = resting_groups_iff
