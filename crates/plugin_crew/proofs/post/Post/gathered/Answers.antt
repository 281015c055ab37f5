use Rattle.std.proofs.Common.{subst}
use Rattle.std.specs.Prelude.{IsSomeAnd}
use Rattle.plugin_crew.specs.Post.{HasServed, IsWork}
use Rattle.plugin_crew.proofs.post.Post.gathered.Goals as goal

pub work_gathered-requires : goal.work_gathered-requires
work_gathered-requires g c =
    let o = g.O.Object in
    let given = c.self.inside.given.value in (
      given,
      subst (λ work. IsSomeAnd work (λ one. IsWork o.fits o.legal o.serves o.answers g.P.Plugin.told given one)) c.in-Some.is c.self.invariant,
    )

pub returns : goal.returns
returns g c =
    let o = g.O.Object in
    let given = c.self.inside.given.value in
    let here = subst (λ work. IsSomeAnd work (λ one. IsWork o.fits o.legal o.serves o.answers g.P.Plugin.told given one)) c.in-Some.is c.self.invariant in
    subst (λ post. HasServed o.serves o.answers g.P.Plugin.told post.given c.work_gathered.result) c.self.view_is (c.work_gathered.ensures given here)
