use Rattle.std.proofs.Common.{rules, ◌≡◌, ◌<◌, ap, sym, ◌∙◌, subst}
use Rattle.room_lock.proofs.Steps.{numbers}
use Rattle.room_lock.proofs.Ends.{one_view, splits}
use Rattle.room_lock.proofs.room.Room.split.Goals as goal

pub load-requires : goal.load-requires
load-requires g c =
    let inside = c.pass.inside in
    let v = one_view _ _ _ c.pass.invariant.0 (ap (λ b. b.views) (sym c.replace.ensures.value) ∙ c.into_seat-seat.ensures.2) in
    let front : inside.caller ≡ 0 = subst (λ k. k.caller ≡ 0) (sym c.pass.view_is) c.requires.front in
    (search rules, search rules, numbers g.O.Object.journal g.O.Object.grown _ _ _ _ _ (ap (λ x. x.stage) v) (ap (λ x. x.caller) v ∙ front))

pub split_seat-next-requires : goal.split_seat-next-requires
split_seat-next-requires g c =
    let inside = c.pass.inside in
    let v = ap (λ m. m.0) c.load.ensures.2.1 ∙ one_view _ _ _ c.pass.invariant.0 (ap (λ b. b.views) (sym c.replace.ensures.value) ∙ c.into_seat-seat.ensures.2) in
    let most = c.args.self.now.table.shared.key.most in
    let front : inside.caller ≡ 0 = subst (λ k. k.caller ≡ 0) (sym c.pass.view_is) c.requires.front in
    let few : inside.made < most = subst (λ k. k.made < most) (sym c.pass.view_is) c.requires.few in
    (search rules, search rules, splits g.O.Object.journal g.O.Object.grown _ _ _ _ (ap (λ x. x.stage) v) (ap (λ x. x.caller) v ∙ front) (subst (λ n. n < most) (sym (ap (λ x. x.made) v)) few))
