use Rattle.std.proofs.Common.{◌≡◌, ap, ◌∙◌}
use Rattle.subset_runs.specs.Runs.{is_in_some}
use Rattle.subset_runs.specs.Subset.{contains}
use Rattle.subset_runs.proofs.RunLemmas.{contains-stored}
use Rattle.subset_runs.proofs.FlagLemmas.{member_iff}
use Rattle.subset_runs.proofs.subset.Subset.contains.Goals as goal

pub returns-clause-flag : goal.returns-clause-flag
returns-clause-flag c =
    c.is_in_some.ensures
    ∙ (ap (λ runs. is_in_some runs c.args.i) c.deref.ensures.value ∙ contains-stored _ _ _ c.args.i _ c.self.invariant c.self.view_is)

pub returns-clause-member : goal.returns-clause-member
returns-clause-member c =
    let flag : c.is_in_some.result ≡ contains c.args.self.now c.args.i =
    c.is_in_some.ensures
    ∙ (ap (λ runs. is_in_some runs c.args.i) c.deref.ensures.value ∙ contains-stored _ _ _ c.args.i _ c.self.invariant c.self.view_is) in
    rw flag (member_iff c.args.self.now c.args.i)
