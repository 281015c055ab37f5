use Rattle.std.proofs.Common.{◌≡◌, ◌+◌, ◌-◌, ◌<◌, ◌≤◌, arith}
use Rattle.plain_edits.specs.History.{head}
use Rattle.rev_collect.proofs.LaterLemmas.{next_left}
use Rattle.rev_collect.proofs.later.with_each.Goals as goal

pub loop-at-init : goal.loop-at-init
loop-at-init c = record { low = omega arith; high = c.requires.may.known; so_far = c.requires.left }

pub with_record-requires-clause-grows : goal.with_record-requires-clause-grows
with_record-requires-clause-grows c =
    let h = c.args.revs.now in
    let rev = c.loop-at.at + 1 in
    let before : c.loop-at.at ≡ rev - 1 = omega arith in
    let low : c.args.floor < rev = omega (arith, c.loop-at.invariant.low) in
    let high : rev ≤ head h = omega (arith, c.head.ensures) in
    (next_left h c.args.floor c.args.groups.now.keys c.requires.may c.revisions_after-walk.ensures.edits c.undone-sets.ensures.sets
    c.is_collected-open.ensures.uncollected rev low high c.record.result.now c.record.ensures c.loop-at.left c.loop-at.dropped
    (rw before at c.loop-at.invariant.so_far)).grows

pub with_record-requires-clause-fits : goal.with_record-requires-clause-fits
with_record-requires-clause-fits c =
    let h = c.args.revs.now in
    let rev = c.loop-at.at + 1 in
    let before : c.loop-at.at ≡ rev - 1 = omega arith in
    let low : c.args.floor < rev = omega (arith, c.loop-at.invariant.low) in
    let high : rev ≤ head h = omega (arith, c.head.ensures) in
    (next_left h c.args.floor c.args.groups.now.keys c.requires.may c.revisions_after-walk.ensures.edits c.undone-sets.ensures.sets
    c.is_collected-open.ensures.uncollected rev low high c.record.result.now c.record.ensures c.loop-at.left c.loop-at.dropped
    (rw before at c.loop-at.invariant.so_far)).fits

pub with_record-requires-clause-may : goal.with_record-requires-clause-may
with_record-requires-clause-may c =
    let h = c.args.revs.now in
    let rev = c.loop-at.at + 1 in
    let before : c.loop-at.at ≡ rev - 1 = omega arith in
    let low : c.args.floor < rev = omega (arith, c.loop-at.invariant.low) in
    let high : rev ≤ head h = omega (arith, c.head.ensures) in
    (next_left h c.args.floor c.args.groups.now.keys c.requires.may c.revisions_after-walk.ensures.edits c.undone-sets.ensures.sets
    c.is_collected-open.ensures.uncollected rev low high c.record.result.now c.record.ensures c.loop-at.left c.loop-at.dropped
    (rw before at c.loop-at.invariant.so_far)).may

pub loop-at-preserved : goal.loop-at-preserved
loop-at-preserved c =
    let h = c.args.revs.now in
    let rev = c.loop-at.at + 1 in
    let before : c.loop-at.at ≡ rev - 1 = omega arith in
    let low : c.args.floor < rev = omega (arith, c.loop-at.invariant.low) in
    let high : rev ≤ head h = omega (arith, c.head.ensures) in
    record {
      low = omega (arith, c.loop-at.invariant.low);
      high = high;
      so_far =
          rw (c.in_ok-dropped.ensures.left, c.in_ok-dropped.ensures.dropped)
          (next_left h c.args.floor c.args.groups.now.keys c.requires.may c.revisions_after-walk.ensures.edits c.undone-sets.ensures.sets
          c.is_collected-open.ensures.uncollected rev low high c.record.result.now c.record.ensures c.loop-at.left c.loop-at.dropped
          (rw before at c.loop-at.invariant.so_far)).next;
    }

pub returns : goal.returns
returns c =
    let end : c.loop-at.at ≡ head c.args.revs.now = omega (arith, c.loop-at.invariant.high, c.head.ensures) in
    rw end at c.loop-at.invariant.so_far
