use Rattle.core_session.proofs.ServesLemmas.{nothing_stops_it}
use Rattle.core_session.proofs.laws.nothing_stops_it.Goals as goal

pub returns : goal.returns
returns c = nothing_stops_it
