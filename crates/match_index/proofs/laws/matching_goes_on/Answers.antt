use Rattle.match_index.proofs.LawLemmas.{MatchingGoesOn-all}
use Rattle.match_index.proofs.laws.matching_goes_on.Goals as goal

pub returns : goal.returns
returns c = MatchingGoesOn-all
