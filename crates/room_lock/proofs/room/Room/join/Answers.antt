use Rattle.std.proofs.Common.{rules, ap}
use Rattle.room_lock.proofs.Ends.{joins}
use Rattle.room_lock.proofs.room.Room.join.Goals as goal

pub join_seat-requires : goal.join_seat-requires
join_seat-requires g c = (
  search rules,
  search rules,
  search rules,
  search rules,
  joins g.O.Object.journal g.O.Object.grown _ _ _ _ _ _ c.requires.idle (ap (λ m. m.0.stage) c.into_seat-other.ensures.1),
)
