use Rattle.selection_core.proofs.OrderLemmas.{selection_of-permutation}
use Rattle.selection_core.proofs.laws.order_does_not_matter.Goals as goal

pub returns : goal.returns
returns c = selection_of-permutation
