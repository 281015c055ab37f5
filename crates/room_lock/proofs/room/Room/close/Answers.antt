use Rattle.std.proofs.Common.{[], ◌∷◌, refl, ap, ◌∙◌, subst, sym}
use Rattle.std.specs.Option.{IsSome}
use Rattle.std.specs.List.{AllByRecursion}
use mathlib.Core.Option.{some-injective}
use Rattle.std.specs.Mem.Slots.{slots_items}
use Rattle.atomic_table.specs.Table.{Final, Seen}
use Rattle.room_lock.specs.Room.{IsKnownOf}
use Rattle.room_lock.specs.Inner.{Kept}
use Rattle.room_lock.proofs.Steps.{object_in}
use Rattle.room_lock.proofs.Ends.{ends}
use Rattle.room_lock.proofs.room.Room.close.Goals as goal

pub unwrap-object-requires : goal.unwrap-object-requires
unwrap-object-requires g c =
    let key = c.args.self.table.shared.key in
    let closed = c.close_with-closed.result in
    let e = ends g.O.Object.journal g.O.Object.grown key.first.value key.most c.gather-seat.result.id c.args.self.table.shared.table_id c.args.passes.items
    (slots_items closed.words) (slots_items closed.slots) c.requires.all
    (subst (λ v. Final (Seen (Kept g.O.Object.journal g.O.Object.grown key.first.value key.most) c.gather-seat.result.id v) (slots_items closed.words) (slots_items closed.slots))
    (ap (λ m. m.0) c.gather-seat.ensures.all) c.close_with-closed.ensures.values.2) in
    let taken = some-injective _ _ (sym e.1 ∙ c.take.ensures.value) in
    subst IsSome taken refl

pub returns-clause-grown : goal.returns-clause-grown
returns-clause-grown g c =
    let key = c.args.self.table.shared.key in
    let closed = c.close_with-closed.result in
    let e = ends g.O.Object.journal g.O.Object.grown key.first.value key.most c.gather-seat.result.id c.args.self.table.shared.table_id c.args.passes.items
    (slots_items closed.words) (slots_items closed.slots) c.requires.all
    (subst (λ v. Final (Seen (Kept g.O.Object.journal g.O.Object.grown key.first.value key.most) c.gather-seat.result.id v) (slots_items closed.words) (slots_items closed.slots))
    (ap (λ m. m.0) c.gather-seat.ensures.all) c.close_with-closed.ensures.values.2) in
    let taken = some-injective _ _ (sym e.1 ∙ c.take.ensures.value) in
    let is = ap (λ o. object_in e.0 ((0, o) ∷ [])) (taken ∙ c.unwrap-object.ensures) in
    subst (g.O.Object.grown key.first.value) is e.2

pub returns-clause-known : goal.returns-clause-known
returns-clause-known g c =
    let key = c.args.self.table.shared.key in
    let closed = c.close_with-closed.result in
    let e = ends g.O.Object.journal g.O.Object.grown key.first.value key.most c.gather-seat.result.id c.args.self.table.shared.table_id c.args.passes.items
    (slots_items closed.words) (slots_items closed.slots) c.requires.all
    (subst (λ v. Final (Seen (Kept g.O.Object.journal g.O.Object.grown key.first.value key.most) c.gather-seat.result.id v) (slots_items closed.words) (slots_items closed.slots))
    (ap (λ m. m.0) c.gather-seat.ensures.all) c.close_with-closed.ensures.values.2) in
    let taken = some-injective _ _ (sym e.1 ∙ c.take.ensures.value) in
    let is = ap (λ o. object_in e.0 ((0, o) ∷ [])) (taken ∙ c.unwrap-object.ensures) in
    subst (λ o. AllByRecursion (IsKnownOf (g.O.Object.journal o)) c.args.passes.items) is e.3
