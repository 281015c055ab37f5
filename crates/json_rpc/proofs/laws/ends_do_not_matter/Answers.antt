use Rattle.json_rpc.proofs.Lines.{reading-ended}
use Rattle.json_rpc.proofs.laws.ends_do_not_matter.Goals as goal

pub returns : goal.returns
returns c = reading-ended
