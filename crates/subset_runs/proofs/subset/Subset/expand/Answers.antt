use Rattle.std.proofs.Common.{false}
use Rattle.subset_runs.proofs.RenumberingLemmas.{IfOk-Expands}
use Rattle.subset_runs.proofs.subset.Subset.expand.Goals as goal

pub returns-clause-renumbered : goal.returns-clause-renumbered
returns-clause-renumbered c =
    IfOk-Expands false c.args.self.now c.args.by.now c.expanded.result c.requires c.expanded.ensures
