use Rattle.std.proofs.Common.{Some, refl, subst}
use Rattle.session_by_hand.specs.declared.stage.Stage.TheVariants.{Calls}
use Rattle.session_by_hand.specs.Stage.{IsMadeOf}
use Rattle.session_by_hand.proofs.stage.played.Goals as goal

pub returns : goal.returns
returns c =
    let made = c.in_ok-hand.field-0 in
    subst (λ asked. IsMadeOf c.args.hand.plugins c.args.hand.core asked (Some (record { stage = Calls made.hand; said = made.said }))) c.in-Some.ensures.call
    (record { hand = made.hand; said = made.said; is = refl; same = c.in_ok-hand.ensures.plugins; says = c.in_ok-hand.ensures.says })
