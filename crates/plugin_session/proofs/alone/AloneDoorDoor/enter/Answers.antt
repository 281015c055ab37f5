use Rattle.plugin_session.proofs.AloneLemmas.{ready_on}
use Rattle.plugin_session.proofs.alone.AloneDoorDoor.enter.Goals as goal

pub returns-clause-ready : goal.returns-clause-ready
returns-clause-ready g c =
    let object = c.args.self.now.object.now in
    ready_on g.O.Object.fits c.args.self.now.caller object c.serve.new.self
    (λ ask fits. g.met.O.Object.fits_on object c.serve.new.self c.args.self.now.caller ask c.serve.ensures.grown fits)
    c.requires.ready
