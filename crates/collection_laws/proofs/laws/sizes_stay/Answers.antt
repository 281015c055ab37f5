use Rattle.collection_laws.proofs.SettledLemmas.{head-left}
use Rattle.collection_laws.proofs.ShownLemmas.{length-left}
use Rattle.collection_laws.proofs.laws.sizes_stay.Goals as goal

pub returns-clause-kept : goal.returns-clause-kept
returns-clause-kept c = length-left

pub returns-clause-heads : goal.returns-clause-heads
returns-clause-heads c = λ history forgets. head-left history forgets.formed.floor
