use Rattle.std.proofs.Common.{◌++◌, map, refl, ap, ◌∙◌, subst, sym}
use Rattle.room_lock.specs.Room.{AreAll}
use Rattle.room_lock.specs.Inner.{AreIn, parted_pass}
use Rattle.room_lock.proofs.Ends.{are_in}
use Rattle.room_lock.proofs.room.Room.gather.Goals as goal

pub loop-pass-init : goal.loop-pass-init
loop-pass-init g c =
    let room = c.args.self.now.table.shared.table_id in
    let me = c.into_seat-seat.ensures.1 in
    let all = subst (AreAll room) (sym c.into_iter-passes.ensures.rest ∙ c.in-Some.ensures.items) c.requires in (
      tt,
      tt,
      refl,
      ap (λ l. (c.into_seat-seat.result.me.0, l)) (ap (λ m. m.1) me),
      ap (λ m. m.0.joined ++ map parted_pass c.into_iter-pass-iterator.result.rest.items) me,
      subst (λ it. AreIn room it.rest.items) (sym c.into_iter-pass-iterator.ensures.into_iter_gives) (are_in 1 room _ all.0.2),
    )
