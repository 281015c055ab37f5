use Rattle.std.proofs.Common.{◌-◌, arith}
use Rattle.rope_node.proofs.TextLemmas.{part-short}
use Rattle.rope_node.proofs.chunk.ChunkLeaf.part.Goals as goal

pub new-requires : goal.new-requires
new-requires c = rw c.in-Ok.ensures (omega (arith, part-short c.self.inside.text (c.args.to - c.args.from) c.args.from, c.self.invariant.1))
