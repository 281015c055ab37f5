use Rattle.storm_lines.proofs.LineLemmas.{inputs_come_apart}
use Rattle.storm_lines.proofs.laws.inputs_come_apart.Goals as goal

pub returns : goal.returns
returns c = inputs_come_apart
