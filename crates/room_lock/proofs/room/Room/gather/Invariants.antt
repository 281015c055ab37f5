use Rattle.std.proofs.Common.{◌≡◌, [], ◌++◌, map}
use Rattle.room_lock.specs.Inner.{with_joined, parted_pass, AreIn}
use Rattle.room_lock.proofs.room.Room.gather.Given as goal

abbrev pub invariant-loop-pass : goal.invariant-loop-pass
invariant-loop-pass g l =
    (goal.iterator-loop-pass g).can_next l.pass-iterator × (goal.iterator-loop-pass g).is_finite l.pass-iterator
    × (l.seat.table_id ≡ l.initial.seat.table_id)
    × (l.seat.me ≡ (with_joined l.seat.me.0.joined l.initial.seat.me.0, []))
    × (l.seat.me.0.joined ++ map parted_pass l.pass-iterator.rest.items ≡ map parted_pass l.initial.pass-iterator.rest.items)
    × AreIn l.self.table.shared.table_id l.pass-iterator.rest.items
