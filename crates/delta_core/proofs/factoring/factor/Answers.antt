use Rattle.std.proofs.Common.{arith}
use Rattle.delta_core.specs.Inner.{part_steps, steps_of}
use Rattle.delta_core.proofs.StepLemmas.{IsSplitting-next, splitting_room, IsFactored-all, length-steps_of, base_count-le_length}
use Rattle.delta_core.proofs.factoring.factor.Goals as goal

pub put_part-requires-clause-base_room : goal.put_part-requires-clause-base_room
put_part-requires-clause-base_room c =
    let units = c.args.units.now in
    omega (arith, (splitting_room c.loop-walk.dropped c.loop-walk.inserted c.loop-walk.walk (part_steps c.next-part.result) c.next-part.new.self (steps_of units) c.loop-walk.invariant c.next-part.ensures.next).0, base_count-le_length (steps_of units), length-steps_of units, c.requires.bound)

pub put_part-requires-clause-union_room : goal.put_part-requires-clause-union_room
put_part-requires-clause-union_room c =
    let units = c.args.units.now in
    omega (arith, (splitting_room c.loop-walk.dropped c.loop-walk.inserted c.loop-walk.walk (part_steps c.next-part.result) c.next-part.new.self (steps_of units) c.loop-walk.invariant c.next-part.ensures.next).1, length-steps_of c.args.units.now, c.requires.bound)

pub loop-walk-preserved : goal.loop-walk-preserved
loop-walk-preserved c =
    IsSplitting-next _ _ _ _ _ _ _ _ c.loop-walk.invariant c.next-part.ensures.next c.in_ok-put_part.ensures.dropped c.in_ok-put_part.ensures.inserted

pub returns : goal.returns
returns c = IsFactored-all c.args.units.now _ _ _ (c.is_empty.ensures.0 c.loop-walk-test.false) c.loop-walk.invariant
