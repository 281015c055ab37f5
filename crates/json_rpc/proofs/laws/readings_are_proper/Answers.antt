use Rattle.json_rpc.proofs.Lines.{depth-reading}
use Rattle.json_rpc.proofs.ReadValues.{IsProper-reading}
use Rattle.json_rpc.proofs.laws.readings_are_proper.Goals as goal

pub returns : goal.returns
returns c = λ line d is. (IsProper-reading line d is, depth-reading line d is)
