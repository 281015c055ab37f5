use Rattle.plugin_session.proofs.DoorLemmas.{Used-look}
use Rattle.plugin_session.proofs.asking.look.Goals as goal

pub returns-clause-used : goal.returns-clause-used
returns-clause-used g c =
    let d = g.D.Door in
    let after = c.look.ensures in
    Used-look d.caller d.journal d.serves d.answers d.later d.ready d.told c.args.door.now c.look.new.self _ c.look.result
    after.caller after.later after.ready after.answered after.told
