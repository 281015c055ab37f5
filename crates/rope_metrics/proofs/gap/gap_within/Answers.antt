use Rattle.std.proofs.Common.{arith, subst, sym}
use Rattle.rope_node.specs.Node.{text_of}
use Rattle.rope_metrics.specs.Measure.{IsGapWithin}
use Rattle.rope_metrics.proofs.GapLemmas.{gap-all, gap-within}
use Rattle.rope_metrics.proofs.gap.gap_within.Goals as goal

pub returns-then-total-at-clause-gap : goal.returns-then-total-at-clause-gap
returns-then-total-at-clause-gap g c =
    subst (IsGapWithin c.args.m (text_of c.args.node.now) c.args.at) (sym c.total-then-total-at.ensures)
    (gap-all c.args.m (text_of c.args.node.now) c.args.at (omega (arith, c.total.ensures, c.if-total-at.true)))

pub returns-clause-gap : goal.returns-clause-gap
returns-clause-gap g c =
    gap-within c.args.m (text_of c.args.node.now) c.args.at c.chunk_at.result.0.now c.chunk_at.result.1 c.chunk_at.ensures.found c.in_chunk.result c.in_chunk.ensures
