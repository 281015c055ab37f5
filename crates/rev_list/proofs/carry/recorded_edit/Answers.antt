use Rattle.std.proofs.Common.{false, length, ap, sym, ◌∙◌}
use Rattle.subset_runs.proofs.ForCallers.{length-expand_as}
use Rattle.rev_list.proofs.FlagLemmas.{length-dead_after}
use Rattle.rev_list.proofs.carry.recorded_edit.Goals as goal

pub symmetric_difference-requires : goal.symmetric_difference-requires
symmetric_difference-requires c =
    ap length c.in_ok-before.ensures.flags ∙ (length-expand_as false c.args.dead.now c.args.edit.inserted ∙
    (sym (length-dead_after c.args.undone c.args.dead.now c.args.edit c.requires.grown c.requires.same_length) ∙ sym (ap length c.in_ok-after.ensures)))
