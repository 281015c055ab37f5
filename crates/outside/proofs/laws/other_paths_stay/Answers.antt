use Rattle.outside.proofs.ShelfLemmas.{OtherPathsStay-proof}
use Rattle.outside.proofs.laws.other_paths_stay.Goals as goal

pub returns : goal.returns
returns c = OtherPathsStay-proof
