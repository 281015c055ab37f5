use Rattle.cluster_core.proofs.ForCallers.{walk_tells, counted_anew-placed}
use Rattle.cluster_core.proofs.laws.walks_tell.Goals as goal

pub returns : goal.returns
returns c = record { columns = walk_tells; anew = λ tab gap column clusters. counted_anew-placed tab gap column 0 clusters }
