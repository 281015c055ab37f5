use Rattle.view_update.proofs.Lines.{scrolls_read_back}
use Rattle.view_update.proofs.laws.scrolls_read_back.Goals as goal

pub returns : goal.returns
returns c = scrolls_read_back
