use Rattle.plugin_side.proofs.ReadBack.{commands_read_back}
use Rattle.plugin_side.proofs.laws.commands_read_back.Goals as goal

pub returns : goal.returns
returns c = commands_read_back
