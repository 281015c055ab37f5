use Rattle.std.proofs.Common.{◌≡◌, ◌≤◌, ◌+◌, List, ◌++◌, length}
use Rattle.std.specs.Prelude.{vec_len, vec_capacity}
use Rattle.room_lock.specs.Room.{Known}
use Rattle.room_cases.specs.Crew.{AreSame}
use Rattle.room_cases.proofs.crew.gather_all.Given as goal

-- those of the first workers stand there
abbrev pub invariant-loop-worker : goal.invariant-loop-worker
invariant-loop-worker g l =
    (goal.iterator-loop-worker g).can_next l.worker-iterator × (goal.iterator-loop-worker g).is_finite l.worker-iterator
    × (vec_len l.passes + length l.worker-iterator.rest.items ≤ vec_capacity l.passes)
    × ((done more : List Known) × (l.initial.worker-iterator.rest.items ≡ done ++ l.worker-iterator.rest.items)
    × (l.passes.items ≡ l.initial.passes.items ++ more) × AreSame done more)
