use Rattle.rope_tree.proofs.ScalarLemmas.{same-scalars}
use Rattle.rope_tree.proofs.rope.Rope.copy.Goals as goal

pub invariant_of-result : goal.invariant_of-result
invariant_of-result c = same-scalars c.in_ok-node.node _ c.in_ok-node.ensures c.self.invariant
