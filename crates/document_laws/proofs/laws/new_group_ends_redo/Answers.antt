use Rattle.document_laws.proofs.RedoLemmas.{new_group_ends_redo as law}
use Rattle.document_laws.proofs.laws.new_group_ends_redo.Goals as goal

pub returns : goal.returns
returns c = law
