use Rattle.std.proofs.Common.{◌+◌, ◌<◌, ◌^◌, arith, rules}
use Rattle.delta_core.proofs.ForCallers.{IsMaking-start}
use Rattle.plain_text.specs.Text.{byte_len}
use Rattle.rope_tree.proofs.EditLemmas.{underway-added, underway-added_fits, underway-dropped, underway-kept, underway-kept_fits, underway-room, underway-room_fits, underway-start}
use Rattle.rope_tree.proofs.rope.Rope.changed.Goals as goal

pub loop-walk-init : goal.loop-walk-init
loop-walk-init c =
    let few : byte_len c.in_ok-rope.rope < 2 ^ 64 = rw c.in_ok-rope.ensures (omega (arith, c.byte_len-bytes.ensures, c.byte_len-bytes.type_inv)) in
    underway-start c.in_ok-rope.rope _ c.new-walk.result (IsMaking-start c.args.units.now c.new-walk.result c.args.self.now c.in_ok-rope.rope c.requires.base c.new-walk.ensures c.in_ok-rope.ensures) few

pub overflow_add-at : goal.overflow_add-at
overflow_add-at c = omega (arith, underway-kept_fits c.loop-walk.rope c.loop-walk.at c.in-Keep.n c.loop-walk.walk _ _ c.loop-walk.invariant c.in-Keep.ensures.next)

pub loop-walk-preserved-in-Keep : goal.loop-walk-preserved-in-Keep
loop-walk-preserved-in-Keep c = underway-kept c.loop-walk.rope c.loop-walk.at c.in-Keep.n c.loop-walk.walk _ _ c.loop-walk.invariant c.in-Keep.ensures.next

pub overflow_add-at-in-Drop : goal.overflow_add-at-in-Drop
overflow_add-at-in-Drop c = omega (arith, underway-room_fits c.loop-walk.rope c.loop-walk.at c.in-Drop.n c.loop-walk.walk _ _ c.loop-walk.invariant c.in-Drop.ensures.next)

pub without-requires-clause-inside : goal.without-requires-clause-inside
without-requires-clause-inside c = underway-room c.loop-walk.rope c.loop-walk.at c.in-Drop.n c.loop-walk.walk _ _ c.loop-walk.invariant c.in-Drop.ensures.next

pub loop-walk-preserved-in-Drop : goal.loop-walk-preserved-in-Drop
loop-walk-preserved-in-Drop c =
    underway-dropped c.loop-walk.rope c.in_ok-rope-in-Drop.rope c.loop-walk.at c.in-Drop.n c.loop-walk.walk _ _ c.loop-walk.invariant c.in-Drop.ensures.next c.in_ok-rope-in-Drop.ensures

pub overflow_add-at-in-Add : goal.overflow_add-at-in-Add
overflow_add-at-in-Add c =
    let room : byte_len c.loop-walk.rope + byte_len c.in-Add.text.now < 2 ^ 64 = search rules in
    omega (arith, c.char_count-at.ensures, underway-added_fits c.loop-walk.rope c.in_ok-rope-in-Add.rope c.in-Add.text.now c.loop-walk.at c.loop-walk.walk _ _ c.loop-walk.invariant c.in-Add.ensures.next room c.in_ok-rope-in-Add.ensures)

pub loop-walk-preserved : goal.loop-walk-preserved
loop-walk-preserved c =
    let room : byte_len c.loop-walk.rope + byte_len c.in-Add.text.now < 2 ^ 64 = search rules in
    rw c.char_count-at.ensures (underway-added c.loop-walk.rope c.in_ok-rope-in-Add.rope c.in-Add.text.now c.loop-walk.at c.loop-walk.walk _ _ c.loop-walk.invariant c.in-Add.ensures.next room c.in_ok-rope-in-Add.ensures)
