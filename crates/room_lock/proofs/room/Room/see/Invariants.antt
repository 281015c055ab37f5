use Rattle.room_lock.specs.Inner.{Looked}
use Rattle.room_lock.proofs.room.Room.see.Given as goal

abbrev pub ghosts-load : goal.ghosts-load
ghosts-load g a = record { then = Looked g.O.Object.journal g.O.Object.grown a.self.now.key.first.value }
