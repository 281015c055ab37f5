use Rattle.std.proofs.Common.{refl, sym, subst}
use Rattle.std.specs.Prelude.{IsSomeAnd}
use Rattle.plugin_crew.specs.Place.{HasTurnAt, IsVisited, place_in}
use Rattle.plugin_crew.specs.Post.{IsWork}
use Rattle.plugin_crew.proofs.post.Post.visit.Goals as goal

pub visited_in-requires : goal.visited_in-requires
visited_in-requires g c =
    let o = g.O.Object in
    let given = c.self.inside.given.value in (
      given,
      subst (λ work. IsSomeAnd work (λ one. IsWork o.fits o.legal o.serves o.answers g.P.Plugin.told given one)) (sym c.replace-work.ensures.value) c.self.invariant,
    )

pub invariant_of-self : goal.invariant_of-self
invariant_of-self g c =
    let o = g.O.Object in
    let given = c.self.inside.given.value in
    c.visited_in.ensures.work given
    (subst (λ work. IsSomeAnd work (λ one. IsWork o.fits o.legal o.serves o.answers g.P.Plugin.told given one)) (sym c.replace-work.ensures.value) c.self.invariant)

pub returns : goal.returns
returns g c =
    let o = g.O.Object in
    let given = c.self.inside.given.value in
    let was = c.replace-work.ensures.value in
    let turn = c.visited_in.ensures.turn given
    (subst (λ work. IsSomeAnd work (λ one. IsWork o.fits o.legal o.serves o.answers g.P.Plugin.told given one)) (sym was) c.self.invariant) in
    subst (λ old. IsVisited o.serves o.answers old (record { given = given; here = place_in c.visited_in.result })) c.self.view_is (
      refl,
      subst (λ work. HasTurnAt (o.serves given.first) (o.answers given.first) (place_in work) (place_in c.visited_in.result)) was turn,
    )
