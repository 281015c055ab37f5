use Rattle.view_update.proofs.Lines.{updates_are_read}
use Rattle.view_update.proofs.laws.updates_are_read.Goals as goal

pub returns : goal.returns
returns c = updates_are_read
