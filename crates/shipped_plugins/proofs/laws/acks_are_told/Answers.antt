use Rattle.shipped_plugins.proofs.LawLemmas.{acks_are_told}
use Rattle.shipped_plugins.proofs.laws.acks_are_told.Goals as goal

pub returns : goal.returns
returns c = acks_are_told
