use Rattle.std.proofs.Common.{◌≡◌, ◌∷◌, ap, ◌∙◌}
use Rattle.plain_edits.specs.Collection.{resting_groups}
use Rattle.rev_collect.proofs.ChoiceLemmas.{resting_without}
use Rattle.rev_collect.proofs.rest.none_rests.Goals as goal

pub loop-group-preserved : goal.loop-group-preserved
loop-group-preserved c =
    let was = c.loop-group.invariant in
    let h = c.args.revs.now in
    let split : c.loop-group.group-iterator ≡ c.in-Some.group.now ∷ c.next.new.self = c.in-Some.ensures.steps in
    record {
      can_next = tt;
      is_finite = tt;
      so_far = λ rest. was.so_far (λ floor within.
          ap (λ items. resting_groups h items floor) split ∙
          resting_without h c.in-Some.group.now c.next.new.self floor (c.may_rest.ensures c.if-may_rest.false floor within) ∙ rest floor within);
    }
