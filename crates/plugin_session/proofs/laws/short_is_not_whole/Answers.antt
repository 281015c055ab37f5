use Rattle.plugin_session.proofs.ShortLemmas.{short_is_not_whole}
use Rattle.plugin_session.proofs.laws.short_is_not_whole.Goals as goal

pub returns : goal.returns
returns g c = short_is_not_whole (g.O.Object.serves c.args.first.now) (g.O.Object.answers c.args.first.now)
