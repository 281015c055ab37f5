use Rattle.edit_ops.proofs.TabLemmas.{replicate-next}
use Rattle.edit_ops.proofs.tabs.spaces.Goals as goal

pub loop-left-preserved : goal.loop-left-preserved
loop-left-preserved c = rw c.in_ok-push.ensures.pushed (replicate-next c.args.count c.loop-left.left c.loop-left.text c.loop-left-test.true c.loop-left.invariant)
