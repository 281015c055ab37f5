use Rattle.json_rpc.proofs.Writable.{error_law}
use Rattle.json_rpc.proofs.laws.errors_read_back.Goals as goal

pub returns : goal.returns
returns c = error_law
