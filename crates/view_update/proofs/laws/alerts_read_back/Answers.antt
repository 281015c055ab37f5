use Rattle.view_update.proofs.Lines.{alerts_read_back}
use Rattle.view_update.proofs.laws.alerts_read_back.Goals as goal

pub returns : goal.returns
returns c = alerts_read_back
