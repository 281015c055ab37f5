use Rattle.std.proofs.Common.{refl, arith}
use Rattle.delta_core.proofs.ElementsLemmas.{IsPutting-start, IsPutting-kept, IsPutting-dropped, IsPutting-added, putting_bound}
use Rattle.delta_core.proofs.WireLemmas.{wiring_kept, wiring_dropped}
use Rattle.delta_core.proofs.ElementsLaws.{IsDeltaOf-all}
use Rattle.delta_core.proofs.delta_form.to_delta.Goals as goal

pub loop-rest-init : goal.loop-rest-init
loop-rest-init c = record {
  putting = IsPutting-start _ c.args.units.now _ _ _ c.requires.base c.as_str-rest.ensures.characters c.new-walk.ensures c.new-delta.ensures.els c.new-delta.ensures.text;
  utf8 = c.as_str-rest.utf8;
}

pub split_at_gap-requires : goal.split_at_gap-requires
split_at_gap-requires c = wiring_kept c.in-Keep.n _ _ _ c.loop-rest.invariant.putting.room c.in-Keep.ensures.next

pub overflow_add-end : goal.overflow_add-end
overflow_add-end c = omega (arith, putting_bound _ _ _ _ _ _ c.in-Keep.n _ c.loop-rest.invariant.putting c.split_at_gap.ensures.bytes, c.byte_len-base_len.ensures)

pub split_at_gap-requires-in-Drop : goal.split_at_gap-requires-in-Drop
split_at_gap-requires-in-Drop c = wiring_dropped c.in-Drop.n _ _ _ c.loop-rest.invariant.putting.room c.in-Drop.ensures.next

pub overflow_add-at : goal.overflow_add-at
overflow_add-at c = omega (arith, putting_bound _ _ _ _ _ _ c.in-Drop.n _ c.loop-rest.invariant.putting c.split_at_gap-in-Drop.ensures.bytes, c.byte_len-base_len.ensures)

pub loop-rest-preserved-in-Keep : goal.loop-rest-preserved-in-Keep
loop-rest-preserved-in-Keep c = record {
  putting =
      IsPutting-kept c.loop-rest.delta _ c.loop-rest.at _ _ c.in-Keep.n c.loop-rest.walk _ _ _ _ _ c.loop-rest.invariant.putting c.in-Keep.ensures.some
      c.in-Keep.ensures.next c.split_at_gap.ensures.back c.split_at_gap.ensures.bytes refl c.in_ok-keep-in-Keep.ensures.els c.in_ok-keep-in-Keep.ensures.text;
  utf8 = c.split_at_gap.ensures.utf8;
}

pub loop-rest-preserved-in-Drop : goal.loop-rest-preserved-in-Drop
loop-rest-preserved-in-Drop c = record {
  putting =
      IsPutting-dropped c.loop-rest.delta _ c.loop-rest.at _ _ c.in-Drop.n c.loop-rest.walk _ _ _ _ _ c.loop-rest.invariant.putting c.in-Drop.ensures.some
      c.in-Drop.ensures.next c.split_at_gap-in-Drop.ensures.back c.split_at_gap-in-Drop.ensures.bytes refl c.in_ok-settle-in-Drop.ensures.els
      c.in_ok-settle-in-Drop.ensures.text;
  utf8 = c.split_at_gap-in-Drop.ensures.utf8;
}

pub loop-rest-preserved : goal.loop-rest-preserved
loop-rest-preserved c = record {
  putting =
      IsPutting-added c.loop-rest.delta _ c.loop-rest.at c.loop-rest.walk _ c.in-Add.added.now _ _ _ c.loop-rest.invariant.putting c.in-Add.ensures.next
      c.in_ok-add-in-Add.ensures.els c.in_ok-add-in-Add.ensures.text;
  utf8 = c.loop-rest.invariant.utf8;
}

pub returns : goal.returns
returns c =
    IsDeltaOf-all c.loop-rest.delta c.args.units.now c.loop-rest.at _ c.loop-rest.walk _ _ _ c.requires.well_formed c.requires.base c.loop-rest.invariant.putting
    (c.is_empty.ensures.0 c.loop-rest-test.false) c.in_ok-into_els.ensures c.byte_len-base_len.ensures
