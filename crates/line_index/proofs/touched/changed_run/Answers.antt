use Rattle.std.proofs.Common.{arith}
use Rattle.delta_core.specs.UnitStep.{part_steps, steps_of}
use Rattle.line_index.proofs.SeenLemmas.{count-steps, room-next, seen-all, seen-next, some-steps}
use Rattle.line_index.proofs.touched.changed_run.Goals as goal

pub after-seen-requires : goal.after-seen-requires
after-seen-requires c =
    omega (
      arith,
      room-next (steps_of c.args.units.now) c.loop-walk.walk (part_steps c.next.result) c.next.new.self c.loop-walk.seen.changed c.loop-walk.seen.at
          c.loop-walk.invariant c.next.ensures.next,
      count-steps c.args.units.now,
      c.requires.small,
    )

pub loop-walk-preserved : goal.loop-walk-preserved
loop-walk-preserved c =
    seen-next (steps_of c.args.units.now) c.loop-walk.walk (part_steps c.next.result) c.next.new.self c.loop-walk.seen.changed c.after-seen.result.changed
    c.loop-walk.seen.at c.after-seen.result.at c.loop-walk.invariant c.next.ensures.next c.after-seen.ensures.at
    (λ done seen. c.after-seen.ensures.seen done (some-steps (part_steps c.next.result) c.next.ensures.some) seen)

pub returns : goal.returns
returns c =
    seen-all (steps_of c.args.units.now) c.loop-walk.walk c.loop-walk.seen.changed c.loop-walk.seen.at c.run.result c.loop-walk.invariant
    (c.is_empty.ensures.0 c.loop-walk-test.false) c.run.ensures
