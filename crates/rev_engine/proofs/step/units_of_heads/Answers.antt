use Rattle.std.proofs.Common.{ap, sym, ◌∙◌, length}
use Rattle.rev_list.proofs.ForCallers.{length-dead_now}
use Rattle.rev_engine.proofs.step.units_of_heads.Goals as goal

pub units_between-requires-clause-before : goal.units_between-requires-clause-before
units_between-requires-clause-before c = c.requires.before ∙ sym (ap length c.dead.ensures ∙ length-dead_now c.args.before.now)

pub units_between-requires-clause-after : goal.units_between-requires-clause-after
units_between-requires-clause-after c = c.requires.after ∙ sym (ap length c.dead-2.ensures ∙ length-dead_now c.args.after.now)
