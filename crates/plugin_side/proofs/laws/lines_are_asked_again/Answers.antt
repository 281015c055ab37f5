use Rattle.plugin_side.proofs.AskedLemmas.{lines_are_asked_again}
use Rattle.plugin_side.proofs.laws.lines_are_asked_again.Goals as goal

pub returns : goal.returns
returns c = lines_are_asked_again c.requests_are_asked.ensures
