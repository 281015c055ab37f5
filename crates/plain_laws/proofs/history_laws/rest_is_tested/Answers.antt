use Rattle.plain_edits.proofs.callers.CollectionLemmas.{is_at_rest_iff}
use Rattle.plain_laws.proofs.history_laws.rest_is_tested.Goals as goal

pub returns : goal.returns
returns c = is_at_rest_iff
