use Rattle.std.proofs.Common.{◌+◌, ap, sym, ◌∙◌, subst, arith}
use Rattle.room_lock.specs.Room.{Known, AreAllFrom}
use Rattle.room_cases.proofs.InOrder.{all_snoc}
use Rattle.room_cases.proofs.crew.hire_all.Goals as goal

pub loop-hired-preserved : goal.loop-hired-preserved
loop-hired-preserved g c =
    let inv = c.loop-hired.invariant in
    let room = c.args.room.now.table.shared.table_id in
    let same = c.split-pass.ensures.same in
    let is = c.hire.ensures ∙ c.split-pass.ensures.next in
    let caller = ap (λ (p : Known). p.caller) is in
    record {
      room = ap (λ (p : Known). p.room) same ∙ inv.room;
      caller = ap (λ (p : Known). p.caller) same ∙ inv.caller;
      made = ap (λ (p : Known). p.made) same ∙ ap (λ n. n + 1) inv.made;
      count = c.push_reserved.ensures.len ∙ ap (λ n. n + 1) inv.count;
      reserved = omega (arith, inv.reserved, c.push_reserved.ensures.capacity);
      all = subst (AreAllFrom 1 room) (sym c.push_reserved.ensures.items)
          (all_snoc 1 room _ _ inv.all (ap (λ (p : Known). p.room) is ∙ inv.room)
          (omega (arith, caller, inv.made, inv.count, c.loop-hired.workers.ok.0)));
    }
