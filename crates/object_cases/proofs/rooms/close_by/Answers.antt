use Rattle.std.proofs.Common.{[], ◌∷◌, ◌++◌, length, arith, ap, sym, ◌∙◌, subst}
use Rattle.room_lock.specs.Room.{AreAll}
use Rattle.object_cases.proofs.rooms.close_by.Goals as goal

pub push_reserved-requires : goal.push_reserved-requires
push_reserved-requires c = omega (arith, c.args.passes.ok.0, ap length c.requires.places.0, c.requires.places.1)

pub push_reserved-requires-2 : goal.push_reserved-requires-2
push_reserved-requires-2 c =
    omega (arith, c.args.passes.ok.0, ap length c.requires.places.0, c.requires.places.1, c.push_reserved.ensures.len, c.push_reserved.ensures.capacity)

pub close-requires : goal.close-requires
close-requires c =
    let front = c.args.front in
    let plugin = c.args.plugin in
    let items = c.push_reserved-2.ensures.items ∙ ap (λ l. l ++ plugin ∷ []) (c.push_reserved.ensures.items ∙ ap (λ l. l ++ front ∷ []) c.requires.places.0) in
    record { all = subst (AreAll c.args.room.table.shared.table_id) (sym items) c.requires.all }
