use Rattle.span_styles.proofs.WalkLemmas.{no_runs}
use Rattle.span_styles.proofs.walk.RunWalk.is_empty.Goals as goal

pub returns : goal.returns
returns c = rw (← c.self.view_is, c.is_empty.ensures) (no_runs c.self.inside.at c.self.inside.runs.now c.self.invariant.are)
