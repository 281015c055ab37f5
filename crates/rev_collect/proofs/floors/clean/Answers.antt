use Rattle.std.proofs.Common.{sym}
use Rattle.rev_collect.proofs.FloorLemmas.{clean-steps}
use Rattle.rev_collect.proofs.floors.clean.Goals as goal

pub loop-revision-init : goal.loop-revision-init
loop-revision-init c =
    let again = c.into_iter-revision-iterator.ensures.into_iter_gives in
    record {
      can_next = tt;
      is_finite = tt;
      so_far = sym (clean-steps c.args.revs.now c.args.floor c.args.floor c.into_iter-revision-iterator.result (rw again c.revisions_after-revision-items.ensures.revisions));
    }
