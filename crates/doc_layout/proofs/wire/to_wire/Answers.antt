use Rattle.std.proofs.Common.{ap₂, arith}
use Rattle.doc_layout.proofs.LayoutLemmas.{length-byte_len}
use Rattle.doc_layout.proofs.WireLemmas.{IsWiring-start, IsWiring-kept, IsWiring-dropped, IsWiring-added, wiring_kept, wiring_dropped, wiring_ahead, wiring_end}
use Rattle.doc_layout.proofs.wire.to_wire.Goals as goal

pub loop-walk-init : goal.loop-walk-init
loop-walk-init c = IsWiring-start _ c.args.units.now _ _ c.requires.base c.new-walk.ensures c.new-wire.ensures

pub overflow_add-gap : goal.overflow_add-gap
overflow_add-gap c =
    let was = c.loop-walk.invariant in
    omega (
      arith,
      wiring_kept c.in-Keep.n _ _ _ _ was.room was.inside c.in-Keep.ensures.next,
      length-byte_len c.args.before.now,
      c.byte_len-base_len.ensures,
      c.byte_len-base_len.type_inv,
    )

pub keep-requires : goal.keep-requires
keep-requires c =
    let was = c.loop-walk.invariant in
    omega (
      arith,
      was.place,
      c.place_of-end.ensures,
      wiring_ahead c.in-Keep.n c.loop-walk.gap c.args.before.now (wiring_kept c.in-Keep.n _ _ _ _ was.room was.inside c.in-Keep.ensures.next)
          c.in-Keep.ensures.some,
    )

pub loop-walk-preserved-in-Keep : goal.loop-walk-preserved-in-Keep
loop-walk-preserved-in-Keep c =
    IsWiring-kept c.loop-walk.wire _ c.loop-walk.gap c.loop-walk.at _ c.in-Keep.n c.loop-walk.walk _ _ _ c.loop-walk.invariant c.in-Keep.ensures.next
    c.place_of-end.ensures c.in_ok-keep-in-Keep.ensures

pub overflow_add-gap-in-Drop : goal.overflow_add-gap-in-Drop
overflow_add-gap-in-Drop c =
    let was = c.loop-walk.invariant in
    omega (
      arith,
      wiring_dropped c.in-Drop.n _ _ _ _ was.room was.inside c.in-Drop.ensures.next,
      length-byte_len c.args.before.now,
      c.byte_len-base_len.ensures,
      c.byte_len-base_len.type_inv,
    )

pub loop-walk-preserved-in-Drop : goal.loop-walk-preserved-in-Drop
loop-walk-preserved-in-Drop c =
    IsWiring-dropped c.loop-walk.wire c.loop-walk.gap c.loop-walk.at _ c.in-Drop.n c.loop-walk.walk _ _ _ c.loop-walk.invariant c.in-Drop.ensures.next
    c.place_of-at.ensures

pub loop-walk-preserved : goal.loop-walk-preserved
loop-walk-preserved c =
    IsWiring-added c.loop-walk.wire _ c.loop-walk.gap c.loop-walk.at c.loop-walk.walk _ c.in-Add.text.now _ _ c.loop-walk.invariant c.in-Add.ensures.next
    c.in_ok-add-in-Add.ensures

pub returns : goal.returns
returns c =
    ap₂ (λ els n. record { els = els; base_len = n })
    (wiring_end c.loop-walk.wire c.loop-walk.gap c.loop-walk.at c.loop-walk.walk _ _ _ c.loop-walk.invariant (c.is_empty.ensures.0 c.loop-walk-test.false) c.in_ok-into_els.ensures)
    c.byte_len-base_len.ensures
