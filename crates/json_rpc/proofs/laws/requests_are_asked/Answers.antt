use Rattle.json_rpc.proofs.Asked.{IsAsked-line_request}
use Rattle.json_rpc.proofs.laws.requests_are_asked.Goals as goal

pub returns : goal.returns
returns c = IsAsked-line_request
