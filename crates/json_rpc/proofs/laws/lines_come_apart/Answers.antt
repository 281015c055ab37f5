use Rattle.json_rpc.proofs.Apart.{lines_of-lines}
use Rattle.json_rpc.proofs.laws.lines_come_apart.Goals as goal

pub returns : goal.returns
returns c = lines_of-lines
