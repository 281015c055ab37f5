use Rattle.std.proofs.Common.{arith}
use Rattle.rope_metrics.proofs.GapLemmas.{plain-gap, plain-gap_fits}
use Rattle.rope_metrics.proofs.gap.plain_gap.Goals as goal

pub overflow_add-result : goal.overflow_add-result
overflow_add-result c =
    omega (
      arith,
      c.width.ensures,
      plain-gap_fits c.args.chunk.now c.requires.plain c.args.m c.requires.measure c.args.before.now c.args.at c.requires.reached c.requires.passed c.requires.fits,
    )

pub returns : goal.returns
returns c =
    rw c.width.ensures
    (plain-gap c.args.chunk.now c.requires.plain c.args.m c.requires.measure c.args.before.now c.args.at c.requires.reached c.requires.passed)
