use Rattle.std.proofs.Common.{false, length, ap, sym, ◌∙◌}
use Rattle.subset_runs.proofs.ForCallers.{length-expand_as}
use Rattle.rev_undo.proofs.carry.after_edit.Goals as goal

pub union-requires : goal.union-requires
union-requires c =
    ap length c.in_ok-before.ensures.flags ∙ (length-expand_as false c.args.dead c.args.edit.now.inserted ∙ sym c.requires.same_length)
