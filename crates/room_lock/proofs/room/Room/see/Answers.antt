use Rattle.std.proofs.Common.{rules}
use Rattle.room_lock.proofs.Steps.{sees}
use Rattle.room_lock.proofs.room.Room.see.Goals as goal

pub load-requires : goal.load-requires
load-requires g c = (search rules, search rules, sees g.O.Object.journal g.O.Object.grown _ _ _ _ _ c.requires.seat.1 c.requires.waits.0 c.requires.waits.1 c.args.self.now.few)
