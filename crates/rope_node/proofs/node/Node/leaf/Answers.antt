use Rattle.std.proofs.Common.{arith}
use Rattle.rope_node.proofs.TextLemmas.{text_fits}
use Rattle.rope_node.proofs.node.Node.leaf.Goals as goal

pub of_leaf-requires-clause-fits : goal.of_leaf-requires-clause-fits
of_leaf-requires-clause-fits c = rw c.new-2.ensures (text_fits c.args.text (omega arith))
