use Rattle.std.proofs.Common.{arith}
use Rattle.subset_runs.proofs.StretchLemmas.{shrink_gone_next, shrink_kept_next}
use Rattle.subset_runs.proofs.steps.next_outside.Goals as goal

pub returns-then-gap-clause-next : goal.returns-then-gap-clause-next
returns-then-gap-clause-next c =
    rw (c.skip.ensures, c.skip-then-gap.ensures) (shrink_gone_next _ _ c.front-gap.result c.front-gap.ensures c.if-gap.true)

pub returns-clause-next : goal.returns-clause-next
returns-clause-next c =
    rw (c.skip-2.ensures, c.skip-3.ensures) (shrink_kept_next _ _ _ _ c.min-len.result c.front-piece.ensures c.front-gap.ensures c.if-gap.false (omega arith) (omega arith))
