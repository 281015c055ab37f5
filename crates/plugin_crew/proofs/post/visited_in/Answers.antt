use Rattle.std.proofs.Common.{sym, subst}
use Rattle.std.specs.Prelude.{IsSomeAnd}
use Rattle.plugin_crew.specs.Place.{HasTurnAt, place_by, place_in}
use Rattle.plugin_crew.specs.Post.{IsWork}
use Rattle.plugin_crew.proofs.post.visited_in.Goals as goal

pub visited-requires : goal.visited-requires
visited-requires g c =
    let o = g.O.Object in
    let (given, is) = c.requires in (
      given,
      subst (λ work. IsSomeAnd work (λ one. IsWork o.fits o.legal o.serves o.answers g.P.Plugin.told given one)) c.in-Some.is is,
    )

pub returns-in-Some-clause-work : goal.returns-in-Some-clause-work
returns-in-Some-clause-work g c given is =
    let o = g.O.Object in
    c.visited.ensures.work given (subst (λ work. IsSomeAnd work (λ one. IsWork o.fits o.legal o.serves o.answers g.P.Plugin.told given one)) c.in-Some.is is)

pub returns-in-Some-clause-turn : goal.returns-in-Some-clause-turn
returns-in-Some-clause-turn g c given is =
    let o = g.O.Object in
    let goes_on = c.visited.ensures.turn given (subst (λ work. IsSomeAnd work (λ one. IsWork o.fits o.legal o.serves o.answers g.P.Plugin.told given one)) c.in-Some.is is) in
    subst (λ work. HasTurnAt (o.serves given.first) (o.answers given.first) (place_in work) (place_by c.visited.result)) (sym c.in-Some.is) goes_on
