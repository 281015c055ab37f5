use Rattle.delta_core.proofs.StepLemmas.{IsMaking-start, IsMaking-kept, IsMaking-dropped, IsMaking-added, room_kept, room_dropped}
use Rattle.delta_core.proofs.application.apply.Goals as goal

pub loop-rest-init : goal.loop-rest-init
loop-rest-init c = record {
  making = rw c.new-made.ensures (IsMaking-start _ _ _ _ c.requires.base c.new-walk.ensures c.as_str-rest.ensures.characters);
  utf8 = c.as_str-rest.utf8;
}

pub split_at_gap-requires : goal.split_at_gap-requires
split_at_gap-requires c = room_kept _ _ _ _ c.in-Keep.n _ c.loop-rest.invariant.making c.in-Keep.ensures.next

pub loop-rest-preserved-in-Keep : goal.loop-rest-preserved-in-Keep
loop-rest-preserved-in-Keep c = record {
  making =
      IsMaking-kept c.loop-rest.made _ c.loop-rest.walk _ _ _ _ c.in-Keep.n _ c.loop-rest.invariant.making c.in-Keep.ensures.next c.split_at_gap.ensures.front
      c.split_at_gap.ensures.back c.in_ok-push_str-in-Keep.ensures.pushed;
  utf8 = c.split_at_gap.ensures.utf8;
}

pub split_at_gap-requires-in-Drop : goal.split_at_gap-requires-in-Drop
split_at_gap-requires-in-Drop c = room_dropped _ _ _ _ c.in-Drop.n _ c.loop-rest.invariant.making c.in-Drop.ensures.next

pub loop-rest-preserved-in-Drop : goal.loop-rest-preserved-in-Drop
loop-rest-preserved-in-Drop c = record {
  making =
      IsMaking-dropped c.loop-rest.made c.loop-rest.walk _ _ _ c.in-Drop.n _ c.loop-rest.invariant.making c.in-Drop.ensures.next
      c.split_at_gap-in-Drop.ensures.back;
  utf8 = c.split_at_gap-in-Drop.ensures.utf8;
}

pub loop-rest-preserved : goal.loop-rest-preserved
loop-rest-preserved c = record {
  making =
      IsMaking-added c.loop-rest.made _ c.loop-rest.walk _ _ c.in-Add.added.now _ c.loop-rest.invariant.making c.in-Add.ensures.next
      c.in_ok-push_text-in-Add.ensures.pushed;
  utf8 = c.loop-rest.invariant.utf8;
}
