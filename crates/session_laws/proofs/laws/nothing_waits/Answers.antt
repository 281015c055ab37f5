use Rattle.session_laws.proofs.EndedLemmas.{nothing_waits}
use Rattle.session_laws.proofs.laws.nothing_waits.Goals as goal

pub returns : goal.returns
returns c = nothing_waits
