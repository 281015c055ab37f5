use Rattle.std.proofs.Common.{ap, sym, ◌∙◌, subst}
use Rattle.plugin_crew.specs.Post.{HasServed, IsWork}
use Rattle.plugin_crew.proofs.PostLemmas.{stay_served}
use Rattle.plugin_crew.proofs.post.work_gathered.Goals as goal

pub stayed_to_end-member-requires : goal.stayed_to_end-member-requires
stayed_to_end-member-requires g c =
    let o = g.O.Object in
    let (given, is) = c.requires in (given, subst (λ one. IsWork o.fits o.legal o.serves o.answers g.P.Plugin.told given one) c.in-Stays.is is)

pub returns-in-Stays : goal.returns-in-Stays
returns-in-Stays g c given is =
    let o = g.O.Object in
    let told = g.P.Plugin.told in
    let here = subst (λ work. IsWork o.fits o.legal o.serves o.answers told given work) c.in-Stays.is is in
    let ended = c.stayed_to_end-member.ensures in
    subst (HasServed o.serves o.answers told given) (sym c.left.ensures)
    (stay_served o.fits o.legal o.serves o.answers told given c.stayed_to_end-member.result.0 c.stayed_to_end-member.result.1 ended.over
    (ended.stays given here))
