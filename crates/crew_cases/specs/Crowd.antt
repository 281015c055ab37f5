-- A RUN ON THREADS over a desk.
use Rattle.std.specs.Prelude.{Bool, List, None, length}
use Rattle.atomic_table.specs.Seated.{TableId}
use Rattle.xi_plain.specs.declared.entry.Entry.{Entry}
use Rattle.xi_plain.specs.Reply.{SaysLength}
use Rattle.room_lock.specs.Room.{Known}
use Rattle.plugin_session.specs.Hired.{Hiring}
use Rattle.plugin_crew.specs.Threads.{AreBack}
use Rattle.crew_cases.specs.Desk.{Adds}

-- all came back that began at a room with this object, whatever they were and whatever the front has seen
abbrev pub IsAllBack : {O P : Type 0} → TableId → O → List Known → List P → Bool → Type 0
IsAllBack room first passes plugins all =
    (seen : List Entry) × (givens : List (Hiring _ _))
    × AreBack (λ desk before caller ask reply after. Adds before caller reply after) (λ desk log caller query answer. SaysLength (length log) answer)
    (λ player. None) room first seen givens passes plugins all
