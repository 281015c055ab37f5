use Rattle.match_index.proofs.TreeLemmas.{last-here}
use Rattle.match_index.proofs.stride.last_by.Goals as goal

pub returns-then-stride-gap : goal.returns-then-stride-gap
returns-then-stride-gap c =
    last-here c.args.numbers.now c.loop-stride.stride-index c.loop-stride.count c.loop-stride.end c.args.gap c.loop-stride.invariant.at
    c.loop-stride.invariant.rest c.loop-stride.invariant.by_then c.loop-stride-test.true c.if-stride-gap.true
