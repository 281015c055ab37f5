use Rattle.plugin_crew.proofs.PostLemmas.{handed_as}
use Rattle.plugin_crew.proofs.post.came_back.Goals as goal

pub unreachable-requires : goal.unreachable-requires
unreachable-requires g c =
    let o = g.O.Object in
    let hired = c.args.hired in
    handed_as (o.serves hired.first) (o.answers hired.first) g.P.Plugin.told hired.pass hired.plugin hired.errand _ c.finish.result _ c.requires c.in-Ok.is c.finish.ensures

pub returns : goal.returns
returns g c =
    let o = g.O.Object in
    let hired = c.args.hired in
    handed_as (o.serves hired.first) (o.answers hired.first) g.P.Plugin.told hired.pass hired.plugin hired.errand _ c.finish.result _ c.requires c.in-Err.is c.finish.ensures
