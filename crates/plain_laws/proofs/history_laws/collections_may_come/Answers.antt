use Rattle.plain_edits.proofs.callers.WellFormedLemmas.{may_collect-collection_of}
use Rattle.plain_laws.proofs.history_laws.collections_may_come.Goals as goal

pub returns : goal.returns
returns c = may_collect-collection_of
