use Rattle.plugin_session.proofs.WorkerLemmas.{served_at_close}
use Rattle.plugin_session.proofs.laws.served_at_close.Goals as goal

pub returns : goal.returns
returns g c = served_at_close (g.O.Object.serves c.args.first.now) (g.O.Object.answers c.args.first.now)
