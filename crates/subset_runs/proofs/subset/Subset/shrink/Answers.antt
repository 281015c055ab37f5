use Rattle.std.proofs.Common.{◌≡◌}
use Rattle.std.proofs.lemmas.Result.{IfOk-weaker}
use Rattle.subset_runs.specs.Renumbering.{Shrinks}
use Rattle.subset_runs.specs.Subset.{shrink}
use Rattle.subset_runs.proofs.RenumberingLemmas.{Shrinks-shrink}
use Rattle.subset_runs.proofs.subset.Subset.shrink.Goals as goal

pub returns-clause-renumbered : goal.returns-clause-renumbered
returns-clause-renumbered c =
    let flags = c.args.self.now in
    let by = c.args.by.now in
    IfOk-weaker c.shrunk.result (λ s. s ≡ shrink flags by) (Shrinks flags by)
    (λ s e. rw e (Shrinks-shrink flags by c.requires)) c.shrunk.ensures
