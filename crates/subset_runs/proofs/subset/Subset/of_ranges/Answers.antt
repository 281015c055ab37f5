use Rattle.std.proofs.Common.{ℕ, ◌≡◌, subst}
use Rattle.std.proofs.lemmas.Result.{err_from_is_err_and}
use Rattle.subset_runs.specs.Ranges.{IsFirstFault}
use Rattle.subset_runs.proofs.RangeLemmas.{no_fault_where_good, one_first_fault, HasRanges-flags_in}
use Rattle.subset_runs.proofs.subset.Subset.of_ranges.Goals as goal

pub returns-in_err-with_members_in-in-None-clause-bad : goal.returns-in_err-with_members_in-in-None-clause-bad
returns-in_err-with_members_in-in-None-clause-bad c =
    let p = err_from_is_err_and c.from_residual.result c.from_residual.ensures.1 in
    rw (p.1, p.2) (λ i. (λ e. absurd cc, λ bad. absurd (no_fault_where_good _ _ _ _ c.in-None.ensures.none bad)))

pub returns-in-Some-clause-bad : goal.returns-in-Some-clause-bad
returns-in-Some-clause-bad c = λ i. (
  λ e.
      let same : c.in-Some.index ≡ i = cc in
      subst (λ (k : ℕ). IsFirstFault c.args.len 0 c.args.ranges.now k) same c.in-Some.ensures.found,
  λ bad.
      let same = one_first_fault _ _ _ _ _ c.in-Some.ensures.found bad in
      cc,
)

pub returns-in_ok-with_members_in-in-None-clause-bad : goal.returns-in_ok-with_members_in-in-None-clause-bad
returns-in_ok-with_members_in-in-None-clause-bad c = λ i. (λ e. absurd cc, λ bad. absurd (no_fault_where_good _ _ _ _ c.in-None.ensures.none bad))

pub returns-in_ok-with_members_in-in-None-clause-members : goal.returns-in_ok-with_members_in-in-None-clause-members
returns-in_ok-with_members_in-in-None-clause-members c =
    rw c.in_ok-with_members_in-in-None.ensures (HasRanges-flags_in c.args.len c.args.ranges.now c.in-None.ensures.none)
