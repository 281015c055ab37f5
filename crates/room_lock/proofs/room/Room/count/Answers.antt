use Rattle.std.proofs.Common.{rules, subst}
use Rattle.xi_plain.specs.Room.{AddsEntryIf}
use Rattle.room_lock.proofs.Steps.{counts, measures}
use Rattle.room_lock.proofs.room.Room.count.Goals as goal

pub fetch_add-requires : goal.fetch_add-requires
fetch_add-requires g c = let a = c.requires.adds in let v = c.args.seat.now.me.0 in (
  search rules,
  search rules,
  counts g.O.Object.journal g.O.Object.grown _ _ _ _ _ a.0 a.1 c.requires.turn
      (subst (λ b. AddsEntryIf b v.seen v.caller (g.O.Object.journal a.0)) c.if-entered.true a.2) a.3,
)

pub load-requires : goal.load-requires
load-requires g c = (search rules, search rules, measures g.O.Object.journal g.O.Object.grown _ _ _ _ _ c.requires.turn)
