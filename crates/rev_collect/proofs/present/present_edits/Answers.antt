use Rattle.std.proofs.Common.{◌≡◌, suc, ◌-◌, ◌<◌, ◌≤◌, ◌++◌, arith, ap, ◌∙◌}
use Rattle.plain_edits.specs.History.{head}
use Rattle.rev_collect.specs.Present.{present_of}
use Rattle.rev_collect.proofs.PresentLemmas.{fits_later, present_at_head, present_before}
use Rattle.rev_collect.proofs.present.present_edits.Goals as goal

pub loop-at-init : goal.loop-at-init
loop-at-init c = record {
  reached = omega (arith, c.floor-floor.ensures.known, c.head-at.ensures);
  known = omega (arith, c.head-at.ensures);
  are = rw (c.head-at.ensures, c.new-edits.ensures.items, c.none-later.ensures, c.union_len.ensures) (present_at_head c.args.revs.now c.revisions_after-walk.ensures.sound);
}

pub with_edit-requires : goal.with_edit-requires
with_edit-requires c =
    let h = c.args.revs.now in
    let m = c.loop-at.at - 1 in
    let here : c.loop-at.at ≡ suc m = omega (arith, c.loop-at-test.true) in
    let after : h.floor < suc m = omega (arith, c.loop-at-test.true, c.floor-floor.ensures.floor) in
    let known : suc m ≤ head h = omega (arith, here, c.loop-at.invariant.known) in
    fits_later h m after known c.revisions_after-walk.ensures.later c.loop-at.later c.revision.result.now (rw here at c.loop-at.invariant.are.later)
    (rw here at c.revision.ensures)

pub loop-at-preserved : goal.loop-at-preserved
loop-at-preserved c =
    let h = c.args.revs.now in
    let m = c.loop-at.at - 1 in
    let here : c.loop-at.at ≡ suc m = omega (arith, c.loop-at-test.true) in
    let after : h.floor < suc m = omega (arith, c.loop-at-test.true, c.floor-floor.ensures.floor) in
    let known : suc m ≤ head h = omega (arith, here, c.loop-at.invariant.known) in
    let r = c.revision.result.now in
    let edits = c.in_ok-later.ensures.edits ∙ ap (λ n. c.loop-at.edits.items ++ present_of n c.loop-at.later r) here in
    record {
      reached = omega (arith, c.loop-at-test.true, c.floor-floor.ensures.floor);
      known = omega (arith, c.loop-at.invariant.known);
      are =
          rw (edits, c.in_ok-later.ensures.later)
          (present_before h m after known c.revisions_after-walk.ensures.later c.loop-at.edits.items c.loop-at.later r (rw here at c.revision.ensures)
          (rw here at c.loop-at.invariant.are));
    }
