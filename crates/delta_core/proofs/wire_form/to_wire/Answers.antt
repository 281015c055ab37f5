use Rattle.std.proofs.Common.{refl, arith}
use Rattle.delta_core.proofs.WireLemmas.{IsWiring-start, IsWiring-kept, IsWiring-dropped, IsWiring-added, wiring_kept, wiring_dropped, wiring_bound}
use Rattle.delta_core.proofs.WireLaws.{IsWireOf-all}
use Rattle.delta_core.proofs.wire_form.to_wire.Goals as goal

pub loop-rest-init : goal.loop-rest-init
loop-rest-init c = record {
  wiring = IsWiring-start _ c.args.units.now _ _ _ c.requires.base c.as_str-rest.ensures.characters c.new-walk.ensures c.new-wire.ensures;
  utf8 = c.as_str-rest.utf8;
}

pub split_at_gap-requires : goal.split_at_gap-requires
split_at_gap-requires c = wiring_kept c.in-Keep.n _ _ _ c.loop-rest.invariant.wiring.room c.in-Keep.ensures.next

pub overflow_add-end : goal.overflow_add-end
overflow_add-end c = omega (arith, wiring_bound _ _ _ _ _ _ c.in-Keep.n _ c.loop-rest.invariant.wiring c.split_at_gap.ensures.bytes, c.byte_len-base_len.ensures)

pub loop-rest-preserved-in-Keep : goal.loop-rest-preserved-in-Keep
loop-rest-preserved-in-Keep c = record {
  wiring =
      IsWiring-kept c.loop-rest.wire _ c.loop-rest.at _ _ c.in-Keep.n c.loop-rest.walk _ _ _ _ _ c.loop-rest.invariant.wiring c.in-Keep.ensures.next
      c.split_at_gap.ensures.back c.split_at_gap.ensures.bytes refl c.in_ok-keep-in-Keep.ensures;
  utf8 = c.split_at_gap.ensures.utf8;
}

pub split_at_gap-requires-in-Drop : goal.split_at_gap-requires-in-Drop
split_at_gap-requires-in-Drop c = wiring_dropped c.in-Drop.n _ _ _ c.loop-rest.invariant.wiring.room c.in-Drop.ensures.next

pub overflow_add-at : goal.overflow_add-at
overflow_add-at c = omega (arith, wiring_bound _ _ _ _ _ _ c.in-Drop.n _ c.loop-rest.invariant.wiring c.split_at_gap-in-Drop.ensures.bytes, c.byte_len-base_len.ensures)

pub loop-rest-preserved-in-Drop : goal.loop-rest-preserved-in-Drop
loop-rest-preserved-in-Drop c = record {
  wiring =
      IsWiring-dropped c.loop-rest.wire c.loop-rest.at _ _ c.in-Drop.n c.loop-rest.walk _ _ _ _ _ c.loop-rest.invariant.wiring c.in-Drop.ensures.next
      c.split_at_gap-in-Drop.ensures.back c.split_at_gap-in-Drop.ensures.bytes refl;
  utf8 = c.split_at_gap-in-Drop.ensures.utf8;
}

pub loop-rest-preserved : goal.loop-rest-preserved
loop-rest-preserved c = record {
  wiring =
      IsWiring-added c.loop-rest.wire _ c.loop-rest.at c.loop-rest.walk _ c.in-Add.text.now _ _ _ c.loop-rest.invariant.wiring c.in-Add.ensures.next
      c.in_ok-add-in-Add.ensures;
  utf8 = c.loop-rest.invariant.utf8;
}

pub returns : goal.returns
returns c =
    IsWireOf-all c.loop-rest.wire c.args.units.now c.loop-rest.at _ c.loop-rest.walk _ _ _ c.requires.well_formed c.requires.base c.loop-rest.invariant.wiring
    (c.is_empty.ensures.0 c.loop-rest-test.false) c.in_ok-into_els.ensures c.byte_len-base_len.ensures
