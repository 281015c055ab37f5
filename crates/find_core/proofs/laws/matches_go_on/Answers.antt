use Rattle.find_core.proofs.MatchLemmas.{matches_of-after}
use Rattle.find_core.proofs.laws.matches_go_on.Goals as goal

pub returns : goal.returns
returns c = record { rest = matches_of-after }
