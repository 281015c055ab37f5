use Rattle.std.proofs.Common.{◌≡◌, ◌++◌, replicate, None, ap, ◌∙◌, arith}
use Rattle.span_styles.proofs.MapLemmas.{IsMapping-start, IsMapping-kept, IsMapping-dropped, IsMapping-added, kept_within, dropped_within, added_room}
use Rattle.span_styles.proofs.layer.mapped.Goals as goal

pub loop-rest-init : goal.loop-rest-init
loop-rest-init c = rw c.new-made.ensures (IsMapping-start _ _ _ _ c.requires.over c.requires.bound c.new-walk.ensures c.walk_from-rest.ensures)

pub take_into-requires : goal.take_into-requires
take_into-requires c =
    let fits = kept_within c.loop-rest.made _ _ _ _ c.in-Keep.n c.loop-rest.invariant c.in-Keep.ensures.next in record { within = fits.0; room = fits.1 }

pub loop-rest-preserved-in-Continue-1 : goal.loop-rest-preserved-in-Continue-1
loop-rest-preserved-in-Continue-1 c =
    IsMapping-kept _ _ _ _ _ _ _ c.in-Keep.n c.loop-rest.invariant c.in-Keep.ensures.next c.in_ok-take_into-in-Keep.ensures.taken c.in_ok-take_into-in-Keep.ensures.ahead

pub skip-requires : goal.skip-requires
skip-requires c = dropped_within _ _ _ _ _ c.in-Drop.n c.loop-rest.invariant c.in-Drop.ensures.next

pub loop-rest-preserved-in-Drop : goal.loop-rest-preserved-in-Drop
loop-rest-preserved-in-Drop c = IsMapping-dropped _ _ _ _ _ _ c.in-Drop.n c.loop-rest.invariant c.in-Drop.ensures.next c.skip.ensures

pub push-requires : goal.push-requires
push-requires c = omega (arith, c.char_count.ensures, added_room _ _ _ _ _ c.in-Add.text.now c.loop-rest.invariant c.in-Add.ensures.next)

pub loop-rest-preserved : goal.loop-rest-preserved
loop-rest-preserved c =
    let pushed : c.push.new.self ≡ c.loop-rest.made ++ replicate c.char_count.result None = c.in_ok-push-in-Add.ensures in
    IsMapping-added _ _ _ _ _ _ c.in-Add.text.now c.loop-rest.invariant c.in-Add.ensures.next
    (pushed ∙ ap (λ n. c.loop-rest.made ++ replicate n None) c.char_count.ensures)
