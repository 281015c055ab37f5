use Rattle.std.proofs.Common.{ap, ◌∙◌}
use Rattle.std.specs.List.{fold}
use Rattle.rev_list.specs.Inner.{dead_later}
use Rattle.rev_list.proofs.FlagLemmas.{grow_next}
use Rattle.rev_list.proofs.carry.carried.Goals as goal

pub loop-revision-preserved : goal.loop-revision-preserved
loop-revision-preserved c =
    let was = c.loop-revision.invariant in
    record {
      can_next = tt;
      is_finite = tt;
      grow = rw c.in_ok-out.ensures (grow_next c.loop-revision.out c.in-Some.revision.now c.next.new.self (rw c.in-Some.ensures.steps at was.grow));
      so_far = ap (λ xs. fold dead_later xs c.next.new.self) c.in_ok-out.ensures ∙ (rw c.in-Some.ensures.steps at was.so_far);
    }
