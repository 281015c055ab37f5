use Rattle.plugin_link.proofs.TurnLemmas.{turns-append}
use Rattle.plugin_link.proofs.laws.turns_go_on.Goals as goal

pub returns : goal.returns
returns c = turns-append
