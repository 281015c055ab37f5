use Rattle.json_rpc.proofs.Lines.{IsLineOf-line_of}
use Rattle.json_rpc.proofs.laws.lines_read_back.Goals as goal

pub returns : goal.returns
returns c = IsLineOf-line_of
