use Rattle.std.proofs.Common.{[], arith}
use Rattle.rope_tree.proofs.RopeLemmas.{replaced_bytes}
use Rattle.rope_tree.proofs.rope.Rope.without.Goals as goal

pub replaced-requires-clause-fits : goal.replaced-requires-clause-fits
replaced-requires-clause-fits c = rw c.new.ensures (omega (arith, replaced_bytes c.args.self.now [] c.args.from c.args.to c.requires.ordered, c.byte_len-bytes.ensures, c.byte_len-bytes.type_inv))
