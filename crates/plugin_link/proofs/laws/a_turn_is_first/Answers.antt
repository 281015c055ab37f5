use Rattle.plugin_link.proofs.TurnLemmas.{turns-first}
use Rattle.plugin_link.proofs.laws.a_turn_is_first.Goals as goal

pub returns : goal.returns
returns c = turns-first
