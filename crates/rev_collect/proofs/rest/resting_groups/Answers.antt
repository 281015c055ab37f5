use Rattle.std.proofs.Common.{◌≡◌, [], ◌∷◌, ◌++◌, ap, sym, ◌∙◌}
use Rattle.std.proofs.lemmas.List.{append_assoc}
use Rattle.plain_text.specs.Numbers.{IsRising}
use Rattle.plain_edits.specs.Collection.{resting_groups}
use Rattle.rev_collect.proofs.RestLemmas.{keys_rise, resting_passed, resting_taken, rising_skipped, with-next}
use Rattle.rev_collect.proofs.rest.resting_groups.Goals as goal

pub loop-group-init : goal.loop-group-init
loop-group-init c =
    let again : c.into_iter-group-iterator.result ≡ c.args.retired.now.keys = c.into_iter-group-iterator.ensures.into_iter_gives.0 in
    record {
      can_next = tt;
      is_finite = tt;
      rising = rw (c.new-groups.ensures.empty, again) (keys_rise c.args.retired.now.keys c.len-count.ensures.ordered);
      so_far =
          ap (λ keys. keys ++ resting_groups c.args.revs.now c.into_iter-group-iterator.result c.args.floor) c.new-groups.ensures.empty ∙
          ap (λ keys. resting_groups c.args.revs.now keys c.args.floor) again;
    }

pub loop-group-preserved-in_ok-insert : goal.loop-group-preserved-in_ok-insert
loop-group-preserved-in_ok-insert c =
    let was = c.loop-group.invariant in
    let keys = c.loop-group.groups.keys in
    let rest = c.next.new.self in
    let group = c.in-Some.group.now in
    let split : c.loop-group.group-iterator ≡ group ∷ rest = c.in-Some.ensures.steps in
    let up : IsRising (keys ++ group ∷ rest) = rw split at was.rising in
    let made : c.insert.new.self.keys ≡ keys ++ group ∷ [] = c.in_ok-insert.ensures.keys ∙ with-next keys rest group up in
    record {
      can_next = tt;
      is_finite = tt;
      rising = rw (made, append_assoc keys (group ∷ []) rest) up;
      so_far =
          ap (λ more. more ++ resting_groups c.args.revs.now rest c.args.floor) made ∙
          resting_taken c.args.revs.now c.args.floor group c.in_ok-moving.moving c.in_ok-moving.ensures keys rest (sym c.is_resting.ensures ∙ c.if-is_resting.true) ∙
          ap (λ items. keys ++ resting_groups c.args.revs.now items c.args.floor) (sym split) ∙ was.so_far;
    }

pub loop-group-preserved : goal.loop-group-preserved
loop-group-preserved c =
    let was = c.loop-group.invariant in
    let keys = c.loop-group.groups.keys in
    let rest = c.next.new.self in
    let group = c.in-Some.group.now in
    let split : c.loop-group.group-iterator ≡ group ∷ rest = c.in-Some.ensures.steps in
    let up : IsRising (keys ++ group ∷ rest) = rw split at was.rising in
    record {
      can_next = tt;
      is_finite = tt;
      rising = rising_skipped keys rest group up;
      so_far =
          ap (λ more. keys ++ more)
          (resting_passed c.args.revs.now c.args.floor group c.in_ok-moving.moving c.in_ok-moving.ensures rest (sym c.is_resting.ensures ∙ c.if-is_resting.false)) ∙
          ap (λ items. keys ++ resting_groups c.args.revs.now items c.args.floor) (sym split) ∙ was.so_far;
    }
