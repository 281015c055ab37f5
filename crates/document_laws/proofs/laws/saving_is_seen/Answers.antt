use Rattle.document_laws.proofs.SavingLemmas.{saving_is_seen as law}
use Rattle.document_laws.proofs.laws.saving_is_seen.Goals as goal

pub returns : goal.returns
returns c = law
