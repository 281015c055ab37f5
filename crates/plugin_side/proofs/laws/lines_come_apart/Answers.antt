use Rattle.plugin_side.proofs.Hears.{lines_come_apart}
use Rattle.plugin_side.proofs.laws.lines_come_apart.Goals as goal

pub returns : goal.returns
returns c = lines_come_apart
