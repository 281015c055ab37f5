use Rattle.std.proofs.Common.{◌≡◌, ◌≤◌, ◌+◌}
use Rattle.std.specs.Prelude.{vec_len, vec_capacity}
use Rattle.room_lock.specs.Room.{AreAllFrom}
use Rattle.room_cases.proofs.crew.hire_all.Given as goal

-- so many were hired, in the order of their callers
abbrev pub invariant-loop-hired : goal.invariant-loop-hired
invariant-loop-hired g l =
    record {
      room : l.front.room ≡ l.room.table.shared.table_id;
      caller : l.front.caller ≡ 0;
      made : l.front.made ≡ l._hired + 1;
      count : vec_len l.workers ≡ l._hired;
      reserved : l.plan.workers ≤ vec_capacity l.workers;
      all : AreAllFrom 1 l.room.table.shared.table_id l.workers.items;
    }
