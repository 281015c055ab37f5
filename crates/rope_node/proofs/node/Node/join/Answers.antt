use Rattle.rope_node.proofs.TextLemmas.{text_fits}
use Rattle.rope_node.proofs.node.Node.join.Goals as goal

pub joined-requires : goal.joined-requires
joined-requires c = rw (c.left.view_is, c.right.view_is) (text_fits _ c.requires)
