use Rattle.session_laws.proofs.ToldLemmas.{shelf_failure_is_told}
use Rattle.session_laws.proofs.laws.shelf_failure_is_told.Goals as goal

pub returns : goal.returns
returns c = shelf_failure_is_told
