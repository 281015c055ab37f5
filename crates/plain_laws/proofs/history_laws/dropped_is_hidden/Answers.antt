use Rattle.plain_edits.proofs.callers.WellFormedLemmas.{dropped_is_hidden}
use Rattle.plain_laws.proofs.history_laws.dropped_is_hidden.Goals as goal

pub returns : goal.returns
returns c = dropped_is_hidden
