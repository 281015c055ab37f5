use Rattle.plugin_side.proofs.Hears.{answers_are_heard}
use Rattle.plugin_side.proofs.laws.answers_are_heard.Goals as goal

pub returns : goal.returns
returns c = answers_are_heard
