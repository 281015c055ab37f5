use Rattle.subset_runs.proofs.StretchLemmas.{complement_next}
use Rattle.subset_runs.proofs.steps.next_flipped.Goals as goal

pub returns-clause-next : goal.returns-clause-next
returns-clause-next c = rw c.skip.ensures (complement_next _ c.front-next.result c.front-next.ensures)
