use Rattle.std.proofs.Common.{arith}
use Rattle.rope_metrics.proofs.OffsetLemmas.{way_below}
use Rattle.rope_metrics.proofs.offset.chunk_at.Goals as goal

pub loop-chunk-preserved : goal.loop-chunk-preserved
loop-chunk-preserved g c = record {
  way =
      way_below c.args.from c.args.node.now.leaves c.args.at c.loop-chunk.here.now.leaves c.child.result.0.now.leaves c.child.ensures.found.front c.child.ensures.found.back c.loop-chunk.before c.child.result.1
      c.loop-chunk.invariant.way c.child.ensures.found.cut c.child.ensures.found.total c.child.ensures.found.passed c.child.ensures.found.reached c.child.ensures.fits;
  count = omega (arith, c.child.ensures.below, c.loop-chunk.invariant.count, c.tick-in-None.ensures);
}
