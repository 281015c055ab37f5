use Rattle.collection_laws.proofs.LeftLemmas.{all_uncollected, none_dropped}
use Rattle.collection_laws.proofs.laws.nothing_forgotten_is_left.Goals as goal

pub returns-clause-collected : goal.returns-clause-collected
returns-clause-collected c = all_uncollected

pub returns-clause-dropped : goal.returns-clause-dropped
returns-clause-dropped c = none_dropped
