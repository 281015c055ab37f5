use Rattle.std.proofs.Common.{subst}
use Rattle.plugin_crew.specs.Post.{IsWork}
use Rattle.plugin_crew.proofs.post.visited.Goals as goal

pub stayed-member-requires : goal.stayed-member-requires
stayed-member-requires g c =
    let o = g.O.Object in
    let (given, is) = c.requires in (given, subst (λ one. IsWork o.fits o.legal o.serves o.answers g.P.Plugin.told given one) c.in-Stays.is is)
