use Rattle.std.proofs.Common.{refl}
use Rattle.rope_tree.proofs.ScalarLemmas.{text-scalars}
use Rattle.rope_tree.proofs.rope.Rope.of_text.Goals as goal

pub invariant_of-result : goal.invariant_of-result
invariant_of-result c = text-scalars c.in_ok-node.node c.in_ok-node.node _ refl c.in_ok-node.ensures.made c.in_ok-node.ensures.characters
