use Rattle.match_index.proofs.LawLemmas.{FrontsStay-all}
use Rattle.match_index.proofs.laws.fronts_stay.Goals as goal

pub returns : goal.returns
returns c = FrontsStay-all
