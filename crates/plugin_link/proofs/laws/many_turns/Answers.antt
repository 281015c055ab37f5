use Rattle.plugin_link.proofs.CallLemmas.{many_turns}
use Rattle.plugin_link.proofs.laws.many_turns.Goals as goal

pub returns : goal.returns
returns c = many_turns
