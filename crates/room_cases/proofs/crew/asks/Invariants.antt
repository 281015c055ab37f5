use Rattle.room_lock.specs.Room.{IsSamePass}
use Rattle.room_cases.proofs.crew.asks.Given as goal

abbrev pub invariant-loop : goal.invariant-loop
invariant-loop g l = IsSamePass l.initial.pass l.pass
