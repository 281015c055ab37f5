use Rattle.std.proofs.Common.{◌≡◌, ◌∷◌, fold, ap, ap₂, sym, ◌∙◌, subst}
use Rattle.undo_groups.specs.Groups.{forgotten}
use Rattle.edit_groups.proofs.ForgetLemmas.{AreLeft, AreLeft-next, keys_rise}
use Rattle.edit_groups.proofs.retired.forgetting.Goals as goal

pub loop-group-init : goal.loop-group-init
loop-group-init c =
    let keys = c.args.groups.now.keys in
    let again : c.into_iter-group-iterator.result ≡ keys = c.into_iter-group-iterator.ensures.into_iter_gives.0 in
    let made_is : c.in_ok-made.made ≡ c.args.stack.now = c.in_ok-made.ensures in
    let left : AreLeft c.args.stack.now keys = record {
      retired = c.requires;
      rising = keys_rise keys c.len.ensures.ordered;
      rises = c.given.ensures.sound.retired_rise;
    } in
    record {
      can_next = tt;
      is_finite = tt;
      left = subst (AreLeft c.in_ok-made.made) (sym again) (subst (λ s. AreLeft s keys) (sym made_is) left);
      so_far = ap₂ (λ s groups. fold forgotten s groups) made_is again;
    }

pub loop-group-preserved : goal.loop-group-preserved
loop-group-preserved c =
    let was = c.loop-group.invariant in
    let rest = c.next.new.self in
    let group = c.in-Some.group.now in
    let split : c.loop-group.group-iterator ≡ group ∷ rest = c.in-Some.ensures.steps in
    let next_is : c.forget.new.self ≡ forgotten c.loop-group.made group = c.in_ok-forget.ensures.forgotten in
    record {
      can_next = tt;
      is_finite = tt;
      left = AreLeft-next c.loop-group.made c.forget.new.self group rest (subst (AreLeft c.loop-group.made) split was.left) next_is;
      so_far = ap (λ s. fold forgotten s rest) next_is ∙ ap (fold forgotten c.loop-group.made) (sym split) ∙ was.so_far;
    }
