use Rattle.std.proofs.Common.{arith}
use Rattle.plain_text.specs.Numbers.{flipped}
use Rattle.plain_edits.specs.Undo.{undone_now}
use Rattle.rev_undo.proofs.StartLemmas.{is_start}
use Rattle.rev_undo.proofs.start.start_of.Goals as goal

pub loop-alloc-init : goal.loop-alloc-init
loop-alloc-init c = record {
  kept = omega (arith, c.floor-floor.ensures.known, c.head-at.ensures);
  known = omega (arith, c.head-at.ensures);
  firsts = rw c.head-at.ensures c.in_ok-firsts.ensures;
}

pub firsts_before-requires-clause-after : goal.firsts_before-requires-clause-after
firsts_before-requires-clause-after c = omega (arith, c.is_reached.ensures.after c.loop-alloc-test.true, c.floor-floor.ensures.floor)

pub loop-alloc-preserved : goal.loop-alloc-preserved
loop-alloc-preserved c = record {
  kept = omega (arith, c.is_reached.ensures.after c.loop-alloc-test.true, c.floor-floor.ensures.floor);
  known = omega (arith, c.loop-alloc.invariant.known);
  firsts = c.in_ok-firsts-2.ensures (flipped (undone_now c.args.revs.now) c.args.differ.now) c.loop-alloc.invariant.firsts;
}

pub returns : goal.returns
returns c =
    is_start c.args.revs.now (flipped (undone_now c.args.revs.now) c.args.differ.now) c.loop-alloc.firsts c.loop-alloc.at
    c.loop-alloc.invariant.kept c.loop-alloc.invariant.known c.loop-alloc.invariant.firsts
    (rw c.floor-floor.ensures.floor at (c.is_reached.ensures.none c.loop-alloc-test.false))
