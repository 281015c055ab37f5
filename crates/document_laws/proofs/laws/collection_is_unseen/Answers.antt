use Rattle.document_laws.proofs.UnseenLemmas.{collection_is_unseen as law}
use Rattle.document_laws.proofs.laws.collection_is_unseen.Goals as goal

pub returns : goal.returns
returns c = law
