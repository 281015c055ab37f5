use Rattle.plugin_link.proofs.TurnLemmas.{turns-are, turns-joined, turns-rest}
use Rattle.plugin_link.proofs.laws.turns_join.Goals as goal

pub returns : goal.returns
returns c = λ bytes. (turns-are bytes, turns-joined bytes, turns-rest bytes)
