use Rattle.plugin_side.proofs.Hears.{notices_are_heard}
use Rattle.plugin_side.proofs.laws.notices_are_heard.Goals as goal

pub returns : goal.returns
returns c = notices_are_heard
