use Rattle.match_index.specs.Inner.{strides_under}
use Rattle.match_index.proofs.TreeLemmas.{get-at}
use Rattle.match_index.proofs.tree.stride_at.Goals as goal

pub returns : goal.returns
returns c =
    get-at (strides_under c.args.strides.now) c.get-place.result.0.now c.args.index c.get-place.result.1 c.get.result c.get-place.ensures c.get.ensures
