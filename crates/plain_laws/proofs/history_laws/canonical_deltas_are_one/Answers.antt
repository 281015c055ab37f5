use Rattle.plain_edits.proofs.callers.CanonicalLemmas.{canonical_same}
use Rattle.plain_laws.proofs.history_laws.canonical_deltas_are_one.Goals as goal

pub returns : goal.returns
returns c = canonical_same
