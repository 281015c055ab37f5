use Rattle.std.proofs.Common.{rules}
use Rattle.room_lock.proofs.Steps.{draws}
use Rattle.room_lock.proofs.room.Room.draw.Goals as goal

pub fetch_add-requires : goal.fetch_add-requires
fetch_add-requires g c = (search rules, search rules, draws g.O.Object.journal g.O.Object.grown _ _ _ _ _ c.requires.idle)
