use Rattle.collection_laws.proofs.LeftLemmas.{IsWellFormed-left}
use Rattle.collection_laws.proofs.laws.left_is_well_formed.Goals as goal

pub returns : goal.returns
returns c = IsWellFormed-left
