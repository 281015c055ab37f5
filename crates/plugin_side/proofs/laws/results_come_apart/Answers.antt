use Rattle.plugin_side.proofs.Hears.{results_come_apart}
use Rattle.plugin_side.proofs.laws.results_come_apart.Goals as goal

pub returns : goal.returns
returns c = results_come_apart
