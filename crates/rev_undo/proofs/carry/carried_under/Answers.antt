use Rattle.std.proofs.Common.{ap, ◌∙◌}
use Rattle.std.specs.List.{fold}
use Rattle.plain_text.specs.Numbers.{flipped}
use Rattle.rev_undo.specs.Under.{hidden_after}
use Rattle.rev_undo.proofs.FlagLemmas.{speak_next}
use Rattle.rev_undo.proofs.carry.carried_under.Goals as goal

pub loop-revision-preserved : goal.loop-revision-preserved
loop-revision-preserved c =
    let was = c.loop-revision.invariant in
    let set = flipped c.args.undone.now c.args.differ.now in
    record {
      can_next = tt;
      is_finite = tt;
      speak = rw c.in_ok-out.ensures (speak_next set c.loop-revision.out c.in-Some.revision.now c.next.new.self (rw c.in-Some.ensures.steps at was.speak));
      so_far = ap (λ xs. fold (hidden_after set) xs c.next.new.self) c.in_ok-out.ensures ∙ (rw c.in-Some.ensures.steps at was.so_far);
    }
