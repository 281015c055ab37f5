use Rattle.std.proofs.Common.{rules}
use Rattle.room_lock.proofs.Steps.{passes}
use Rattle.room_lock.proofs.room.Room.pass_on.Goals as goal

pub fetch_add-requires : goal.fetch_add-requires
fetch_add-requires g c = let h = c.requires.holds in (search rules, search rules, passes g.O.Object.journal g.O.Object.grown _ _ _ _ _ h.0 h.1 c.requires.turn h.2 h.3)
