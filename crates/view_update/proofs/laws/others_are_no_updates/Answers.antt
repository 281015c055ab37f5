use Rattle.view_update.proofs.Lines.{others_are_no_updates}
use Rattle.view_update.proofs.laws.others_are_no_updates.Goals as goal

pub returns : goal.returns
returns c = others_are_no_updates
