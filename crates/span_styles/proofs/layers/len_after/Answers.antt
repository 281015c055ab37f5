use Rattle.std.proofs.Common.{ap, arith}
use Rattle.span_styles.specs.Inner.{shown_count}
use Rattle.span_styles.proofs.MapLemmas.{shown_count-steps_of, shown_count-kept, shown_count-dropped, shown_count-added}
use Rattle.span_styles.proofs.layers.len_after.Goals as goal

pub loop-walk-init : goal.loop-walk-init
loop-walk-init c = omega (arith, ap shown_count c.new-walk.ensures, shown_count-steps_of c.args.units.now)

pub overflow_add-len : goal.overflow_add-len
overflow_add-len c =
    omega (arith, c.requires.bound, c.loop-walk.invariant, ap shown_count c.in-Keep.ensures.next, shown_count-kept c.in-Keep.n c.next.new.self)

pub loop-walk-preserved-in-Keep : goal.loop-walk-preserved-in-Keep
loop-walk-preserved-in-Keep c =
    omega (arith, c.loop-walk.invariant, ap shown_count c.in-Keep.ensures.next, shown_count-kept c.in-Keep.n c.next.new.self)

pub loop-walk-preserved-in-Drop : goal.loop-walk-preserved-in-Drop
loop-walk-preserved-in-Drop c =
    omega (arith, c.loop-walk.invariant, ap shown_count c.in-Drop.ensures.next, shown_count-dropped c.in-Drop.field-0 c.next.new.self)

pub overflow_add-len-in-Add : goal.overflow_add-len-in-Add
overflow_add-len-in-Add c =
    omega (arith, c.requires.bound, c.loop-walk.invariant, c.char_count-len.ensures, ap shown_count c.in-Add.ensures.next, shown_count-added c.in-Add.text.now c.next.new.self)

pub loop-walk-preserved : goal.loop-walk-preserved
loop-walk-preserved c =
    omega (arith, c.loop-walk.invariant, c.char_count-len.ensures, ap shown_count c.in-Add.ensures.next, shown_count-added c.in-Add.text.now c.next.new.self)
