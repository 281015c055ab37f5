use Rattle.std.proofs.Common.{arith}
use Rattle.subset_runs.proofs.RunLemmas.{flags_in_whole, length_stored}
use Rattle.subset_runs.proofs.RangeLemmas.{HasRanges-stored}
use Rattle.subset_runs.proofs.subset.Subset.runs.Goals as goal

pub returns-clause-within : goal.returns-clause-within
returns-clause-within c =
    rw (c.deref.ensures.value, length_stored _ _ _ c.self.view_is) c.self.invariant.within

pub returns-clause-members : goal.returns-clause-members
returns-clause-members c =
    rw c.deref.ensures.value (HasRanges-stored _ _ _ _ c.self.invariant c.self.view_is)

pub returns-clause-together : goal.returns-clause-together
returns-clause-together c = flags_in_whole _ _ _ _ c.deref.ensures.value c.self.view_is
