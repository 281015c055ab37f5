use Rattle.cluster_core.proofs.FirstLemmas.{IsPast-alone, boundary-past}
use Rattle.cluster_core.proofs.first.past_alone.Goals as goal

pub split_at-requires : goal.split_at-requires
split_at-requires c = boundary-past c.args.line.now c.args.run.now c.utf8.line c.requires

pub returns-clause-clusters : goal.returns-clause-clusters
returns-clause-clusters c = (IsPast-alone c.args.line.now c.args.run.now c.utf8.line c.requires).clusters
