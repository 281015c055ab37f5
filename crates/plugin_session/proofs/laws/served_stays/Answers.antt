use Rattle.plugin_session.proofs.SessionLemmas.{served_stays}
use Rattle.plugin_session.proofs.laws.served_stays.Goals as goal

pub returns : goal.returns
returns g c = served_stays (g.O.Object.serves c.args.first.now) (g.O.Object.answers c.args.first.now)
