use Rattle.std.proofs.Common.{rules, Some, ap, sym, ◌∙◌, ◌∷◌}
use Rattle.atomic_table.specs.Table.{rest}
use Rattle.room_lock.proofs.room.Room.take.Goals as goal

pub exchange-requires : goal.exchange-requires
exchange-requires g c = let t = c.await_turn.ensures.took in let out = ap (λ m. m.1) t.1 in (search rules, (Some t.0, out ∙ ap (λ l. (0, Some t.0) ∷ rest l) (sym out)))
