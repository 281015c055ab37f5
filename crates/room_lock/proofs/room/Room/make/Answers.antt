use Rattle.std.proofs.Common.{[], ◌∷◌, ◌++◌, Some, ap, ◌∙◌, subst, sym}
use Rattle.atomic_table.specs.Table.{opening}
use Rattle.room_lock.specs.Inner.{Kept, idle}
use Rattle.room_lock.proofs.Ends.{begins}
use Rattle.room_lock.proofs.room.Room.make.Goals as goal

pub new-made-requires : goal.new-made-requires
new-made-requires g c =
    let object = c.args.object in
    let items = c.push_reserved.ensures.items ∙ ap (λ l. l ++ Some object ∷ []) c.in-Ok.ensures.items in
    subst (λ l. Kept g.O.Object.journal g.O.Object.grown c.of.result.value c.args.callers (opening (0 ∷ 0 ∷ 0 ∷ []) l (idle 0 [] 1))) (sym items)
    (begins g.O.Object.journal g.O.Object.grown c.of.result.value c.args.callers object c.of.ensures c.requires.empty (g.met.O.Object.same object) c.requires.callers)
