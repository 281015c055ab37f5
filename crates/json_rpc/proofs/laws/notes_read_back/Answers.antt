use Rattle.json_rpc.proofs.Writable.{note_law}
use Rattle.json_rpc.proofs.laws.notes_read_back.Goals as goal

pub returns : goal.returns
returns c = note_law
