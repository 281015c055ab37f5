use Rattle.std.proofs.Common.{List, Bool, ◌++◌, replicate, arith, sym, ap, ◌∙◌}
use Rattle.subset_runs.proofs.ForCallers.{front_part}
use Rattle.delta_core.proofs.synthesis.next_block.Goals as goal

pub returns-clause-before : goal.returns-clause-before
returns-clause-before c =
    front_part c.args.before.now c.front-first.result c.min-len.result c.front-first.ensures (omega (arith, c.min-len.ensures)) ∙
    ap (λ (xs : List Bool). replicate c.min-len.result c.front-first.result.member ++ xs) (sym c.skip.ensures)

pub returns-clause-after : goal.returns-clause-after
returns-clause-after c =
    front_part c.args.after.now c.front-second.result c.min-len.result c.front-second.ensures (omega (arith, c.min-len.ensures)) ∙
    ap (λ (xs : List Bool). replicate c.min-len.result c.front-second.result.member ++ xs) (sym c.skip-2.ensures)
