use Rattle.std.proofs.Common.{length, ap, arith}
use Rattle.subset_runs.proofs.RunLemmas.{length-flags_in}
use Rattle.subset_runs.proofs.subset.Subset.walk.Goals as goal

pub returns-clause-bound : goal.returns-clause-bound
returns-clause-bound c =
    omega (arith, ap length c.self.view_is, length-flags_in c.self.inside.runs.items 0 c.self.inside.len)
