use Rattle.core_session.proofs.ForCallers.{revisions_few}
use Rattle.session_laws.proofs.laws.revisions_are_few.Goals as goal

pub returns : goal.returns
returns c = revisions_few
