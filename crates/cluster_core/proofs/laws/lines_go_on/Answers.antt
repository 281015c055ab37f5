use Rattle.cluster_core.proofs.RestartLemmas.{clusters-anew}
use Rattle.cluster_core.proofs.laws.lines_go_on.Goals as goal

pub returns : goal.returns
returns c = record { others = clusters-anew }
