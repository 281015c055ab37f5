use Rattle.plugin_crew.proofs.ThreadLemmas.{back_all, run_ended}
use Rattle.plugin_crew.proofs.back.Back.finish.Goals as goal

pub close-requires : goal.close-requires
close-requires g c =
    let o = g.O.Object in
    let room = c.args.room.table.shared in
    let self = c.args.self in
    let (entries, givens, back) = c.requires in
    record { all = back_all o.serves o.answers g.P.Plugin.told room.table_id room.key.first.value entries givens self.passes.items self.plugins.items self.all_served back }

pub returns : goal.returns
returns g c entries givens back =
    let o = g.O.Object in
    let room = c.args.room.table.shared in
    let self = c.args.self in
    run_ended o.serves o.answers g.P.Plugin.told o.journal o.grown room.table_id room.key.first.value c.close.result entries givens self.passes.items self.plugins.items
    self.all_served c.close.ensures.grown c.close.ensures.known back
