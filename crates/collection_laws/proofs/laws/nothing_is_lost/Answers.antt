use Rattle.collection_laws.proofs.CollectedLemmas.{left_of-whole}
use Rattle.collection_laws.proofs.laws.nothing_is_lost.Goals as goal

pub returns : goal.returns
returns c = left_of-whole
