use Rattle.view_update.proofs.Lines.{updates_read_back}
use Rattle.view_update.proofs.laws.updates_read_back.Goals as goal

pub returns : goal.returns
returns c = updates_read_back
