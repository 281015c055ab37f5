use Rattle.std.proofs.Common.{not, ◌&&◌, ◌||◌, length, ap, ◌∙◌}
use Rattle.subset_runs.proofs.ForCallers.{length-at_each}
use Rattle.rev_list.proofs.carry.before.Goals as goal

pub shrink-requires : goal.shrink-requires
shrink-requires c =
    let fits = rw c.in-Edit.is at c.requires.fits in
    ap length c.in_ok-turned.ensures ∙ length-at_each (λ x y. x && not y || y && not x) c.args.dead.now c.args.last.now.turned c.requires.same_length ∙ fits
