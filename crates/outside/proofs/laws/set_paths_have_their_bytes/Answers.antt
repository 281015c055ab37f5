use Rattle.outside.proofs.ShelfLemmas.{SetPathsHaveTheirBytes-proof}
use Rattle.outside.proofs.laws.set_paths_have_their_bytes.Goals as goal

pub returns : goal.returns
returns c = SetPathsHaveTheirBytes-proof
