use Rattle.cluster_core.proofs.PlainLemmas.{plain-parted, plain-alone}
use Rattle.cluster_core.proofs.laws.plain_stand_alone.Goals as goal

pub returns : goal.returns
returns c = record { parted = plain-parted; alone = plain-alone }
