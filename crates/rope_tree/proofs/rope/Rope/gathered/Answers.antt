use Rattle.delta_core.proofs.ForCallers.{IsMaking-added, IsMaking-dropped, IsMaking-kept, IsMaking-start, room_dropped, room_kept}
use Rattle.rope_tree.proofs.EditLemmas.{added_few, kept_few}
use Rattle.rope_tree.proofs.rope.Rope.gathered.Goals as goal

pub loop-walk-init : goal.loop-walk-init
loop-walk-init c = rw c.empty-made.ensures (IsMaking-start _ _ _ _ c.requires.base c.new-walk.ensures c.in_ok-rest.ensures)

pub front-requires : goal.front-requires
front-requires c = room_kept _ _ _ _ c.in-Keep.n _ c.loop-walk.invariant c.in-Keep.ensures.next

pub joined-requires : goal.joined-requires
joined-requires c = rw c.in_ok-front-in-Keep.ensures (kept_few _ _ _ _ c.in-Keep.n _ c.loop-walk.invariant c.in-Keep.ensures.next c.requires.fits)

pub back-requires : goal.back-requires
back-requires c = room_kept _ _ _ _ c.in-Keep.n _ c.loop-walk.invariant c.in-Keep.ensures.next

pub loop-walk-preserved-in-Keep : goal.loop-walk-preserved-in-Keep
loop-walk-preserved-in-Keep c =
    IsMaking-kept c.loop-walk.made _ c.loop-walk.walk _ _ c.in_ok-front-in-Keep.field-0 _ c.in-Keep.n _ c.loop-walk.invariant c.in-Keep.ensures.next c.in_ok-front-in-Keep.ensures
    c.in_ok-rest-in-Keep.ensures c.in_ok-made-in-Keep.ensures

pub back-requires-in-Drop : goal.back-requires-in-Drop
back-requires-in-Drop c = room_dropped _ _ _ _ c.in-Drop.n _ c.loop-walk.invariant c.in-Drop.ensures.next

pub loop-walk-preserved-in-Drop : goal.loop-walk-preserved-in-Drop
loop-walk-preserved-in-Drop c =
    IsMaking-dropped c.loop-walk.made c.loop-walk.walk _ _ _ c.in-Drop.n _ c.loop-walk.invariant c.in-Drop.ensures.next c.in_ok-rest-in-Drop.ensures

pub joined-requires-in-Add : goal.joined-requires-in-Add
joined-requires-in-Add c = rw c.in_ok-of_text-in-Add.ensures (added_few _ _ _ _ c.in-Add.text.now _ c.loop-walk.invariant c.in-Add.ensures.next c.requires.fits)

pub loop-walk-preserved : goal.loop-walk-preserved
loop-walk-preserved c =
    IsMaking-added c.loop-walk.made _ c.loop-walk.walk _ _ c.in-Add.text.now _ c.loop-walk.invariant c.in-Add.ensures.next (rw c.in_ok-of_text-in-Add.ensures at c.in_ok-made-in-Add.ensures)
