use Rattle.delta_core.proofs.CarryLemmas.{IsCarried-all}
use Rattle.delta_core.proofs.carry.carry_ins.Goals as goal

pub returns : goal.returns
returns c =
    IsCarried-all c.args.after c.args.ins.now c.args.later.now _ c.loop-other.own c.loop-other.other c.requires.base c.loop-other.invariant.so_far
    (c.is_empty.ensures.0 c.if-not-is_empty.false) (c.is_empty-else-not-is_empty.ensures.0 c.if-not-is_empty-2.false)
