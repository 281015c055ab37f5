use Rattle.std.proofs.Common.{inl, inr, arith}
use Rattle.subset_runs.proofs.RunLemmas.{length_stored, count_stored_le, IsStored-grown, IsStored-added, appended_none, appended_run}
use Rattle.subset_runs.proofs.subset.Subset.append.Goals as goal
use Rattle.subset_runs.proofs.subset.Subset.append.Goals.{then-not-member-via-then-not-member, then-not-member-via-else-not-member+then-n-eq0}

pub overflow_add-end : goal.overflow_add-end
overflow_add-end c = omega (arith, length_stored _ _ _ c.self.view_is)

pub invariant_of-self : goal.invariant_of-self
invariant_of-self c = IsStored-grown _ _ c.args.n _ c.self.invariant

pub returns-then-not-member-clause-ok : goal.returns-then-not-member-clause-ok
returns-then-not-member-clause-ok c =
    elim c.then-not-member.branch [
      | then-not-member-via-then-not-member w ↦ appended_none _ _ _ _ _ _ c.self.invariant c.self.view_is (inl w.if-not-member.true)
      | then-not-member-via-else-not-member+then-n-eq0 w ↦ appended_none _ _ _ _ _ _ c.self.invariant c.self.view_is (inr w.if-n-eq0.true)
    ]

pub overflow_add-self : goal.overflow_add-self
overflow_add-self c =
    omega (arith, length_stored _ _ _ c.self.view_is, count_stored_le _ _ _ c.self.invariant)

pub invariant_of-self-2 : goal.invariant_of-self-2
invariant_of-self-2 c = IsStored-added _ _ _ _ _ c.self.invariant c.in_ok-add_run.ensures.ok

pub returns-clause-ok : goal.returns-clause-ok
returns-clause-ok c = appended_run _ _ _ _ _ _ _ c.self.invariant c.self.view_is c.in_ok-add_run.ensures.ok c.if-not-member.false
