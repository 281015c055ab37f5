use Rattle.document_laws.proofs.ReadingLemmas.{asking_is_unseen as law}
use Rattle.document_laws.proofs.laws.asking_is_unseen.Goals as goal

pub returns : goal.returns
returns c = law
