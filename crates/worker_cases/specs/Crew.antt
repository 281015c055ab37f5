-- WORKERS OF A POST, where each caller may ask all, and each journal can be.
use Rattle.atomic_table.specs.Seated.{TableId}
use Rattle.room_lock.specs.Room.{Known}
use Rattle.plugin_session.specs.Worker.{MayWork}

-- the pass is one of a plugin in this room, and its caller has no entry yet
abbrev pub MayPost : {O : Type 0} → TableId → O → Known → Type 0
MayPost room first pass = MayWork (λ object caller ask. Unit {0}) (λ object log. Unit {0}) room first pass
