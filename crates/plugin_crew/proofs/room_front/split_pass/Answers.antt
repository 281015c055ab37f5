use Rattle.plugin_crew.proofs.ThreadLemmas.{may_next}
use Rattle.plugin_crew.proofs.room_front.split_pass.Goals as goal

pub returns-clause-may : goal.returns-clause-may
returns-clause-may g c =
    let room = c.args.room.now.table.shared in
    may_next g.O.Object.fits g.O.Object.legal room.table_id room.key.first.value c.args.front.now c.split.result c.requires.room c.split.ensures.next
    c.split.ensures.own c.requires.ready c.requires.lawful
