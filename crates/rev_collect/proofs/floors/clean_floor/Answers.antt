use Rattle.std.proofs.Common.{◌≡◌, ◌<◌, ◌≤◌, ap, ◌∙◌, arith}
use Rattle.plain_edits.specs.Collection.{is_clean}
use Rattle.rev_collect.proofs.FloorLemmas.{from_head, least_within, from_before, unclean_before, greatest_is, ended}
use Rattle.rev_collect.proofs.floors.clean_floor.Goals as goal

pub loop-at-init : goal.loop-at-init
loop-at-init c = record {
  reached = omega (arith, c.requires.reached, c.requires.known, c.head-at.ensures);
  known = omega (arith, c.head-at.ensures);
  within = omega arith;
  bases = rw c.head-at.ensures (from_head c.args.revs.now c.args.most);
  above = λ floor over within. absurd (omega (arith, over, within, c.requires.known, c.head-at.ensures));
}

pub loop-at-preserved : goal.loop-at-preserved
loop-at-preserved c =
    let was = c.loop-at.invariant in
    let some : 0 < c.loop-at.at = omega arith in
    let low : c.loop-at.least < c.loop-at.at = omega arith in
    record {
      reached = omega (arith, c.floor-floor.ensures.floor);
      known = omega (arith, was.known);
      within = rw c.least_base-least.ensures (least_within c.loop-at.least c.args.most c.revision.result.now was.within);
      bases = rw c.least_base-least.ensures (from_before c.args.revs.now c.args.most c.loop-at.at c.loop-at.least c.revision.result.now some c.revision.ensures was.bases);
      above = unclean_before c.args.revs.now c.args.most c.loop-at.at c.loop-at.least some low was.bases was.above;
    }

pub returns-else-least-at-clause-found : goal.returns-else-least-at-clause-found
returns-else-least-at-clause-found c =
    let was = c.loop-at.invariant in
    let low : c.loop-at.at ≤ c.loop-at.least = omega (arith, c.if-least-at.false) in
    ended c.args.revs.now c.args.most c.loop-at.at c.loop-at.least low was.within was.bases was.above

-- the walk ends at the floor of the list, which is clean
pub returns-after-loop-at-clause-found : goal.returns-after-loop-at-clause-found
returns-after-loop-at-clause-found c =
    let was = c.loop-at.invariant in
    let here : c.loop-at.at ≡ c.args.revs.now.floor = omega (arith, c.loop-at-test.false, c.floor-floor.ensures.floor, was.reached) in
    greatest_is c.args.revs.now c.loop-at.at c.args.most (omega (arith, here, c.requires.reached))
    (ap (is_clean c.args.revs.now.revisions) here ∙ c.floor-floor.ensures.clean) was.above
