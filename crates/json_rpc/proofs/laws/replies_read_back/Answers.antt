use Rattle.json_rpc.proofs.Writable.{reply_law}
use Rattle.json_rpc.proofs.laws.replies_read_back.Goals as goal

pub returns : goal.returns
returns c = reply_law
