use Rattle.std.proofs.Common.{arith}
use Rattle.subset_runs.specs.Inner.{is_kept}
use Rattle.subset_runs.proofs.StretchLemmas.{at_each_next}
use Rattle.subset_runs.proofs.steps.next_both.Goals as goal

pub returns-clause-next : goal.returns-clause-next
returns-clause-next c =
    rw (c.skip.ensures, c.skip-2.ensures, c.keeps.ensures) (at_each_next (is_kept c.args.keep) _ _ _ _ c.min-len.result c.front-one.ensures c.front-other.ensures (omega arith) (omega arith))
