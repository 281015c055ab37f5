use Rattle.edit_ops.proofs.GestureLemmas.{IsSelection-left, IsSelection-without_goal}
use Rattle.edit_ops.proofs.gestures.toggle.Goals as goal

pub returns-then-is_touched-clause-sound : goal.returns-then-is_touched-clause-sound
returns-then-is_touched-clause-sound c =
    IsSelection-left _ c.args.sel.now.regions _ _ _ c.in_ok-without_goals.ensures c.in_ok-left.ensures c.in_ok-regions.ensures c.requires

pub add-requires : goal.add-requires
add-requires c = rw c.in_ok-without_goals.ensures (IsSelection-without_goal c.args.sel.now.regions c.requires)
