use Rattle.std.proofs.Common.{arith}
use Rattle.selection_core.proofs.GapLemmas.{parts_left-bound, added-all, new_gap-bound}
use Rattle.selection_core.proofs.gap_walk.next_gap.Goals as goal

pub pass_adds-walk-requires-clause-bound : goal.pass_adds-walk-requires-clause-bound
pass_adds-walk-requires-clause-bound c = omega (arith, parts_left-bound c.args.units.now c.args.after c.args.gap c.requires.within, c.requires.bound)

pub overflow_add-result : goal.overflow_add-result
overflow_add-result c =
    let added = added-all _ _ _ c.pass_adds-walk.ensures.passed c.pass_adds-walk.ensures.ahead in
    omega
    (arith, added, c.kept_by.ensures, new_gap-bound c.args.units.now c.args.after c.args.gap c.requires.within, c.requires.bound)

pub returns-clause-gap : goal.returns-clause-gap
returns-clause-gap c =
    let added = added-all _ _ _ c.pass_adds-walk.ensures.passed c.pass_adds-walk.ensures.ahead in omega (arith, added, c.kept_by.ensures)
