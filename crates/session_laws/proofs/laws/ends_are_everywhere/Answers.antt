use Rattle.session_laws.proofs.EndedLemmas.{ends_are_everywhere}
use Rattle.session_laws.proofs.laws.ends_are_everywhere.Goals as goal

pub returns : goal.returns
returns c = ends_are_everywhere
