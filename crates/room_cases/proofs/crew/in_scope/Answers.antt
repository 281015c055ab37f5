use Rattle.std.proofs.Common.{[], ◌∷◌, ◌++◌, ap, sym, ◌∙◌, subst, arith}
use Rattle.room_lock.specs.Room.{AreAll}
use Rattle.room_cases.proofs.InOrder.{all_back}
use Rattle.room_cases.proofs.crew.in_scope.Goals as goal

pub returns : goal.returns
returns g c =
    let room = c.args.room.now.table.shared.table_id in
    let hired = c.hire_all-front.ensures in
    let workers = c.hire_all-front.result.1 in
    let front = c.worked.result in
    let one = c.worked.ensures in
    let (more, there, same) = c.gather_all.ensures.gathered in
    let items = there ∙ ap (λ l. l ++ more) (c.push_reserved.ensures.items ∙ ap (λ l. l ++ front ∷ []) c.requires.empty.1) in
    subst (AreAll room) (sym items)
    (all_back room front workers.items more (one.room ∙ hired.front.0) (one.caller ∙ hired.front.1)
    (omega (arith, one.made, hired.made, hired.count, workers.ok.0)) hired.workers same)
