use Rattle.room_lock.specs.Room.{IsSamePass}
use Rattle.worker_cases.proofs.crew.say_often.Given as goal

-- it is the same pass
abbrev pub invariant-loop : goal.invariant-loop
invariant-loop g l = IsSamePass l.initial.pass l.pass
