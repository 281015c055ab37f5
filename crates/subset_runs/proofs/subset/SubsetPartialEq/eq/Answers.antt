use Rattle.std.proofs.Common.{◌∙◌}
use Rattle.subset_runs.proofs.EqualRuns.{same_answer, other_answer}
use Rattle.subset_runs.proofs.subset.SubsetPartialEq.eq.Goals as goal

pub returns-then-self-other : goal.returns-then-self-other
returns-then-self-other c =
    c.eq.ensures
    ∙ same_answer _ _ _ _ _ _ _ _ c.self.invariant c.other.invariant c.self.view_is c.other.view_is c.if-self-other.true

pub returns-else-self-other : goal.returns-else-self-other
returns-else-self-other c = other_answer _ _ _ _ _ _ c.self.view_is c.other.view_is c.if-self-other.false
