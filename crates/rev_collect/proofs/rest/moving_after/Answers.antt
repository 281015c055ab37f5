use Rattle.std.proofs.Common.{◌<◌, arith}
use Rattle.rev_collect.proofs.RestLemmas.{none_moving, moving_before}
use Rattle.rev_collect.proofs.rest.moving_after.Goals as goal

pub loop-at-init : goal.loop-at-init
loop-at-init c = record {
  reached = omega (arith, c.requires.known, c.head-at.ensures);
  known = omega (arith, c.head-at.ensures);
  moving = rw (c.head-at.ensures, c.new-moving.ensures) (none_moving c.args.revs.now);
}

pub loop-at-preserved : goal.loop-at-preserved
loop-at-preserved c =
    let was = c.loop-at.invariant in
    let some : 0 < c.loop-at.at = omega arith in
    record {
      reached = omega arith;
      known = omega (arith, was.known);
      moving =
          moving_before c.args.revs.now c.loop-at.at c.revision.result.now c.loop-at.moving c.in_ok-moving.moving some was.known c.revision.ensures
          c.undone-sets.ensures.sets was.moving c.in_ok-moving.ensures;
    }
