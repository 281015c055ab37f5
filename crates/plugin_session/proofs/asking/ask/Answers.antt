use Rattle.plugin_session.proofs.DoorLemmas.{Used-ask}
use Rattle.plugin_session.proofs.asking.ask.Goals as goal

pub returns : goal.returns
returns g c =
    let d = g.D.Door in
    let after = c.enter.ensures in
    record {
      used = Used-ask d.caller d.journal d.serves d.answers d.later d.ready d.told c.args.door.now c.enter.new.self c.args.ask c.enter.result
          after.caller after.later after.ready (λ log done. g.met.D.Door.one_entry c.args.door.now log _ c.args.ask c.enter.result done)
          after.served after.told;
    }
