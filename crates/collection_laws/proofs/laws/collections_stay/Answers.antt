use Rattle.collection_laws.proofs.LeftLemmas.{collection_of-left}
use Rattle.collection_laws.proofs.laws.collections_stay.Goals as goal

pub returns : goal.returns
returns c = λ history retired most forgets low. collection_of-left history forgets retired most low
