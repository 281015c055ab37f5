use Rattle.view_update.proofs.Lines.{styles_read_back}
use Rattle.view_update.proofs.laws.styles_read_back.Goals as goal

pub returns : goal.returns
returns c = styles_read_back
