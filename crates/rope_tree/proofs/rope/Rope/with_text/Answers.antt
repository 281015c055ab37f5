use Rattle.std.proofs.Common.{arith}
use Rattle.rope_tree.proofs.RopeLemmas.{replaced_bytes}
use Rattle.rope_tree.proofs.rope.Rope.with_text.Goals as goal

pub replaced-requires-clause-fits : goal.replaced-requires-clause-fits
replaced-requires-clause-fits c = omega (arith, replaced_bytes c.args.self.now c.args.text.now c.args.at c.args.at (omega arith), c.requires.fits)
