use Rattle.core_session.proofs.ServesLemmas.{refused_exactly}
use Rattle.core_session.proofs.laws.refused_exactly.Goals as goal

pub returns : goal.returns
returns c = refused_exactly
