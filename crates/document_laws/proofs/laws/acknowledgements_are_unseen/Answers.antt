use Rattle.document_laws.proofs.UnseenLemmas.{acknowledgements_are_unseen as law}
use Rattle.document_laws.proofs.laws.acknowledgements_are_unseen.Goals as goal

pub returns : goal.returns
returns c = law
